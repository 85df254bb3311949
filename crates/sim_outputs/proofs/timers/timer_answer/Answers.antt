-- Made by tools/uniform from proofs.txt, not by hand: 31a3f9a02a54509b
use Rattle.sim_outputs.specs.SetTimerLaws.{timer_answered}
use borrow.Author.Rules.{rules}
use Rattle.sim_outputs.proofs.timers.timer_answer.Goals as goal

pub returns : goal.returns
returns c = search (timer_answered, rules)
