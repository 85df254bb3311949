-- Made by tools/uniform from proofs.txt, not by hand: dbf6ebaac32dc075
use Rattle.sim_outputs.specs.SetTimerLaws.{timer_acts}
use borrow.Author.Rules.{rules}
use Rattle.sim_outputs.proofs.timers.timer_act.Goals as goal

pub returns : goal.returns
returns c = search (timer_acts, rules)
