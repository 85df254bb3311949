-- Made by tools/uniform from proofs.txt, not by hand: 65cecd94e2a79448
use Rattle.sim_direct.specs.Laws.{fire_stopped, fire_nine, fire_goes}
use borrow.Author.Rules.{rules}
use Rattle.sim_direct.proofs.fire_timer_plan.Goals as goal

pub returns-then-code-gt0 : goal.returns-then-code-gt0
returns-then-code-gt0 c = search (fire_stopped, fire_nine, fire_goes, rules)

pub returns-then-timer-gt1 : goal.returns-then-timer-gt1
returns-then-timer-gt1 c = search (fire_stopped, fire_nine, fire_goes, rules)

pub returns : goal.returns
returns c = search (fire_stopped, fire_nine, fire_goes, rules)
