-- Made by tools/uniform from proofs.txt, not by hand: 58dadcf61e781681
use Rattle.state.specs.Exits.{inside_of, call_shut}
use Rattle.sim_schedule.specs.ScheduleLaws.{schedule_no, schedule_done}
use borrow.Author.Rules.{rules}
use Rattle.sim_schedule.proofs.schedule_in.Goals as goal

pub returns-then-refusal-gt0 : goal.returns-then-refusal-gt0
returns-then-refusal-gt0 c = search (inside_of, call_shut, schedule_no, schedule_done, rules)

pub schedule_plan-p-requires : goal.schedule_plan-p-requires
schedule_plan-p-requires c = search (inside_of, call_shut, schedule_no, schedule_done, rules)

pub returns-then-code-gt0 : goal.returns-then-code-gt0
returns-then-code-gt0 c = search (inside_of, call_shut, schedule_no, schedule_done, rules)

pub push_plain-requires : goal.push_plain-requires
push_plain-requires c = search (inside_of, call_shut, schedule_no, schedule_done, rules)

pub returns : goal.returns
returns c = search (inside_of, call_shut, schedule_no, schedule_done, rules)
