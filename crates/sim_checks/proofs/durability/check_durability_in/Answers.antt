-- Made by tools/uniform from proofs.txt, not by hand: 14df49e78e9e269a
use Rattle.state.specs.Exits.{inside_of, call_shut}
use Rattle.sim_checks.specs.DurabilityLaws.{durability_no, durability_done}
use borrow.Author.Rules.{rules}
use Rattle.sim_checks.proofs.durability.check_durability_in.Goals as goal

pub done-requires : goal.done-requires
done-requires c = search (inside_of, call_shut, durability_no, durability_done, rules)

pub returns-then-refusal-gt0 : goal.returns-then-refusal-gt0
returns-then-refusal-gt0 c = search (inside_of, call_shut, durability_no, durability_done, rules)

pub durability_plan-p-requires : goal.durability_plan-p-requires
durability_plan-p-requires c = search (inside_of, call_shut, durability_no, durability_done, rules)

pub done-requires-then-code-gt0 : goal.done-requires-then-code-gt0
done-requires-then-code-gt0 c = search (inside_of, call_shut, durability_no, durability_done, rules)

pub returns-then-code-gt0 : goal.returns-then-code-gt0
returns-then-code-gt0 c = search (inside_of, call_shut, durability_no, durability_done, rules)

pub durability_act-requires : goal.durability_act-requires
durability_act-requires c = search (inside_of, call_shut, durability_no, durability_done, rules)

pub done-requires-2 : goal.done-requires-2
done-requires-2 c = search (inside_of, call_shut, durability_no, durability_done, rules)

pub returns : goal.returns
returns c = search (inside_of, call_shut, durability_no, durability_done, rules)
