-- Made by tools/uniform from proofs.txt, not by hand: 0c1832b26b4b70fa
use Rattle.sim_faults.specs.Faults.{crashing_state}
use borrow.Author.Rules.{rules}
use Rattle.sim_faults.proofs.servers.crashing.Goals as goal

pub returns : goal.returns
unfolding crashing_state
returns c = search rules
