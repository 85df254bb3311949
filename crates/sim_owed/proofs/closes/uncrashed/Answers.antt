-- Made by tools/uniform from proofs.txt, not by hand: 764961b71158421a
use Rattle.sim_owed.specs.Closes.{uncrashed_state}
use borrow.Author.Rules.{rules}
use Rattle.sim_owed.proofs.closes.uncrashed.Goals as goal

pub returns : goal.returns
unfolding uncrashed_state
returns c = search rules
