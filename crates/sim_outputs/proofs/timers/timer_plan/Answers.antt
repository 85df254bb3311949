-- Made by tools/uniform from proofs.txt, not by hand: d9bef81592132e60
use Rattle.sim_outputs.specs.SetTimerLaws.{timer_planned}
use borrow.Author.Rules.{rules}
use Rattle.sim_outputs.proofs.timers.timer_plan.Goals as goal

pub returns : goal.returns
returns c = search (timer_planned, rules)
