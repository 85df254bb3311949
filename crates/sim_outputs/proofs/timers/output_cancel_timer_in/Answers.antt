-- Made by tools/uniform from proofs.txt, not by hand: d65c91ffcd0b046c
use Rattle.state.specs.Exits.{inside_of, call_shut, call_refused, call_done}
use borrow.Author.Rules.{rules}
use Rattle.sim_outputs.proofs.timers.output_cancel_timer_in.Goals as goal

pub returns-then-refusal-gt0 : goal.returns-then-refusal-gt0
returns-then-refusal-gt0 c = search (inside_of, call_shut, call_refused, call_done, rules)

pub returns-then-code-gt0 : goal.returns-then-code-gt0
returns-then-code-gt0 c = search (inside_of, call_shut, call_refused, call_done, rules)

pub returns : goal.returns
returns c = search (inside_of, call_shut, call_refused, call_done, rules)

pub cancel_act-requires-clause-inside : goal.cancel_act-requires-clause-inside
cancel_act-requires-clause-inside c = search (inside_of, call_shut, call_refused, call_done, rules)
