-- Made by tools/uniform from proofs.txt, not by hand: 17f7ed6cb7fb66ed
use Rattle.faults_chaos.specs.Splits.{dealing}
use borrow.Author.Rules.{rules}
use Rattle.faults_chaos.proofs.members.Servers.deal.Goals as goal

pub returns : goal.returns
returns c = search (dealing, rules)
