-- Made by tools/uniform from proofs.txt, not by hand: e9bff31feb7e9d0b
use Rattle.state.specs.Exits.{inside_of, call_shut, call_refused, call_done}
use borrow.Author.Rules.{rules}
use Rattle.sim_checks.proofs.matching.check_log_matching_in.Goals as goal

pub done-requires : goal.done-requires
done-requires c = search (inside_of, call_shut, call_refused, call_done, rules)

pub returns-then-refusal-gt0 : goal.returns-then-refusal-gt0
returns-then-refusal-gt0 c = search (inside_of, call_shut, call_refused, call_done, rules)

pub matching_plan-code-requires : goal.matching_plan-code-requires
matching_plan-code-requires c = search (inside_of, call_shut, call_refused, call_done, rules)

pub done-requires-then-code-gt0 : goal.done-requires-then-code-gt0
done-requires-then-code-gt0 c = search (inside_of, call_shut, call_refused, call_done, rules)

pub returns-then-code-gt0 : goal.returns-then-code-gt0
returns-then-code-gt0 c = search (inside_of, call_shut, call_refused, call_done, rules)

pub matching_act-requires : goal.matching_act-requires
matching_act-requires c = search (inside_of, call_shut, call_refused, call_done, rules)

pub done-requires-2 : goal.done-requires-2
done-requires-2 c = search (inside_of, call_shut, call_refused, call_done, rules)

pub returns : goal.returns
returns c = search (inside_of, call_shut, call_refused, call_done, rules)
