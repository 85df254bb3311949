-- Made by tools/uniform from proofs.txt, not by hand: 0bc026b6db5ad9dd
use Rattle.sim_outputs.specs.TimerLaws.{generation_read}
use borrow.Author.Rules.{rules}
use Rattle.sim_outputs.proofs.timers.generation_of.Goals as goal

pub returns : goal.returns
returns c = search (generation_read, rules)
