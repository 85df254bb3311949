-- Made by tools/uniform from proofs.txt, not by hand: fca74ce9f9436441
use Rattle.state.specs.Exits.{inside_of, call_shut}
use Rattle.sim_direct.specs.AskedLaws.{confirm_no, confirm_none, confirm_opened}
use borrow.Author.Rules.{rules}
use Rattle.sim_direct.proofs.asked.confirm_leadership_in.Goals as goal

pub returns-then-refusal-gt0 : goal.returns-then-refusal-gt0
returns-then-refusal-gt0 c = search (inside_of, call_shut, confirm_no, confirm_none, confirm_opened, rules)

pub confirm_plan-p-requires : goal.confirm_plan-p-requires
confirm_plan-p-requires c = search (inside_of, call_shut, confirm_no, confirm_none, confirm_opened, rules)

pub returns-then-code-gt0 : goal.returns-then-code-gt0
returns-then-code-gt0 c = search (inside_of, call_shut, confirm_no, confirm_none, confirm_opened, rules)

pub returns-then-not-running : goal.returns-then-not-running
returns-then-not-running c = search (inside_of, call_shut, confirm_no, confirm_none, confirm_opened, rules)

pub open_confirmation-requires : goal.open_confirmation-requires
open_confirmation-requires c = search (inside_of, call_shut, confirm_no, confirm_none, confirm_opened, rules)

pub returns : goal.returns
returns c = search (inside_of, call_shut, confirm_no, confirm_none, confirm_opened, rules)
