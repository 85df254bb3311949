-- Made by tools/uniform from proofs.txt, not by hand: eb7e9fec03a8e660
use Rattle.state.specs.Exits.{inside_of, call_shut, call_refused, call_done}
use borrow.Author.Rules.{rules}
use Rattle.sim_outputs.proofs.timers.output_set_timer_in.Goals as goal

pub returns-then-refusal-gt0 : goal.returns-then-refusal-gt0
returns-then-refusal-gt0 c = search (inside_of, call_shut, call_refused, call_done, rules)

pub returns-then-code-gt0 : goal.returns-then-code-gt0
returns-then-code-gt0 c = search (inside_of, call_shut, call_refused, call_done, rules)

pub returns : goal.returns
returns c = search (inside_of, call_shut, call_refused, call_done, rules)

pub timer_act-requires-clause-inside : goal.timer_act-requires-clause-inside
timer_act-requires-clause-inside c = search (inside_of, call_shut, call_refused, call_done, rules)
