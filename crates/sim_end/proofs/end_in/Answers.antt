-- Made by tools/uniform from proofs.txt, not by hand: 9ce9b00b6d1ded6c
use Rattle.state.specs.Exits.{inside_of, call_shut}
use Rattle.sim_end.specs.Laws.{slot_open}
use Rattle.sim_end.specs.EndLaws.{end_no, end_yes}
use borrow.Author.Rules.{rules}
use Rattle.sim_end.proofs.end_in.Goals as goal

pub opened_no-requires : goal.opened_no-requires
opened_no-requires c = search (inside_of, call_shut, end_no, end_yes, rules)

pub returns-then-refusal-gt0 : goal.returns-then-refusal-gt0
returns-then-refusal-gt0 c = search (inside_of, call_shut, end_no, end_yes, rules)

pub open_of-input-requires : goal.open_of-input-requires
open_of-input-requires c = search (inside_of, call_shut, end_no, end_yes, rules)

pub end_code-code-requires : goal.end_code-code-requires
end_code-code-requires c = search (inside_of, call_shut, end_no, end_yes, rules)

pub opened_no-requires-then-code-gt0 : goal.opened_no-requires-then-code-gt0
opened_no-requires-then-code-gt0 c = search (inside_of, call_shut, end_no, end_yes, rules)

pub returns-then-code-gt0 : goal.returns-then-code-gt0
returns-then-code-gt0 c = search (inside_of, call_shut, end_no, end_yes, rules)

pub status_given-status-requires : goal.status_given-status-requires
status_given-status-requires c = search (inside_of, call_shut, end_no, end_yes, rules)

pub end_at-requires : goal.end_at-requires
end_at-requires c = let y = c.if-refusal-gt0.false in record { inside = inside_of _ _ c.requires y; slot_lt_servers = slot_open _ _ _ c.requires y c.open_of-input.ensures; reads = c.open_of-input.ensures; status_value = c.status_given-status.ensures.words }

pub returns : goal.returns
returns c = search (inside_of, call_shut, end_no, end_yes, rules)
