-- Made by tools/uniform from proofs.txt, not by hand: 3548aa3bc0cd889e
use Rattle.faults_chaos.specs.Draws.{pick_is}
use borrow.Author.Rules.{rules}
use Rattle.faults_chaos.proofs.members.Servers.pick_server.Goals as goal

pub returns : goal.returns
returns c = search (pick_is, rules)
