-- Made by tools/uniform from proofs.txt, not by hand: 736e3d2655389ba7
use Rattle.sim_start.specs.Laws.{plan_judged, plan_limits, plan_sum, plan_short, plan_together, plan_full, plan_spread}
use borrow.Author.Rules.{rules}
use Rattle.sim_start.proofs.start_plan.Goals as goal

pub returns-then-judged-gt0 : goal.returns-then-judged-gt0
returns-then-judged-gt0 c = search (plan_judged, plan_limits, plan_sum, plan_short, plan_together, plan_full, plan_spread, rules)

pub area_length-n-requires : goal.area_length-n-requires
area_length-n-requires c = search (plan_judged, plan_limits, plan_sum, plan_short, plan_together, plan_full, plan_spread, rules)

pub returns-then-size-n : goal.returns-then-size-n
returns-then-size-n c = search (plan_judged, plan_limits, plan_sum, plan_short, plan_together, plan_full, plan_spread, rules)

pub returns-then-spread-eq0 : goal.returns-then-spread-eq0
returns-then-spread-eq0 c = search (plan_judged, plan_limits, plan_sum, plan_short, plan_together, plan_full, plan_spread, rules)

pub overflow_add-events : goal.overflow_add-events
overflow_add-events c = search (plan_judged, plan_limits, plan_sum, plan_short, plan_together, plan_full, plan_spread, rules)

pub returns-then-limits-events : goal.returns-then-limits-events
returns-then-limits-events c = search (plan_judged, plan_limits, plan_sum, plan_short, plan_together, plan_full, plan_spread, rules)

pub returns-else-limits-events : goal.returns-else-limits-events
returns-else-limits-events c = search (plan_judged, plan_limits, plan_sum, plan_short, plan_together, plan_full, plan_spread, rules)
