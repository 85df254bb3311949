-- Made by tools/uniform from proofs.txt, not by hand: b8abeb1a0ba7ad50
use Rattle.sim_owed.specs.Servers.{stopped_state}
use borrow.Author.Rules.{rules}
use Rattle.sim_owed.proofs.servers.stopped.Goals as goal

pub returns : goal.returns
unfolding stopped_state
returns c = search rules
