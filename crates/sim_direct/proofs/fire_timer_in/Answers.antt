-- Made by tools/uniform from proofs.txt, not by hand: 4d17d9af0d8c3155
use Rattle.state.specs.Exits.{inside_of, call_shut}
use Rattle.sim_direct.specs.Laws.{fire_no, fire_none, fire_opened}
use borrow.Author.Rules.{rules}
use Rattle.sim_direct.proofs.fire_timer_in.Goals as goal

pub returns-then-refusal-gt0 : goal.returns-then-refusal-gt0
returns-then-refusal-gt0 c = search (inside_of, call_shut, fire_no, fire_none, fire_opened, rules)

pub fire_timer_plan-p-requires : goal.fire_timer_plan-p-requires
fire_timer_plan-p-requires c = search (inside_of, call_shut, fire_no, fire_none, fire_opened, rules)

pub returns-then-code-gt0 : goal.returns-then-code-gt0
returns-then-code-gt0 c = search (inside_of, call_shut, fire_no, fire_none, fire_opened, rules)

pub returns-then-not-running : goal.returns-then-not-running
returns-then-not-running c = search (inside_of, call_shut, fire_no, fire_none, fire_opened, rules)

pub open_timer-requires : goal.open_timer-requires
open_timer-requires c = search (inside_of, call_shut, fire_no, fire_none, fire_opened, rules)

pub returns : goal.returns
returns c = search (inside_of, call_shut, fire_no, fire_none, fire_opened, rules)
