-- Made by tools/uniform from proofs.txt, not by hand: 85952f197b3277e2
use Rattle.sim_outputs.specs.TimerLaws.{generation_written}
use borrow.Author.Rules.{rules}
use Rattle.sim_outputs.proofs.timers.set_generation.Goals as goal

pub returns : goal.returns
returns c = search (generation_written, rules)
