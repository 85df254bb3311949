-- Made by tools/uniform from proofs.txt, not by hand: c4f6cad72f007931
use Rattle.state.specs.Exits.{inside_of, read_shut}
use Rattle.sim_reads.specs.Laws.{slot_below, status_seven, status_read}
use borrow.Author.Rules.{rules}
use Rattle.sim_reads.proofs.read_status_in.Goals as goal

pub status_no-requires : goal.status_no-requires
status_no-requires c = search (inside_of, slot_below, read_shut, status_seven, status_read, rules)

pub returns-then-refusal-gt0 : goal.returns-then-refusal-gt0
returns-then-refusal-gt0 c = search (inside_of, slot_below, read_shut, status_seven, status_read, rules)

pub server_asked-asked-requires : goal.server_asked-asked-requires
server_asked-asked-requires c = search (inside_of, slot_below, read_shut, status_seven, status_read, rules)

pub status_no-requires-then-code-gt0 : goal.status_no-requires-then-code-gt0
status_no-requires-then-code-gt0 c = search (inside_of, slot_below, read_shut, status_seven, status_read, rules)

pub returns-then-code-gt0 : goal.returns-then-code-gt0
returns-then-code-gt0 c = search (inside_of, slot_below, read_shut, status_seven, status_read, rules)

pub status_of-status-requires : goal.status_of-status-requires
status_of-status-requires c = search (inside_of, slot_below, read_shut, status_seven, status_read, rules)

pub status_yes-requires : goal.status_yes-requires
status_yes-requires c = search (inside_of, slot_below, read_shut, status_seven, status_read, rules)

pub returns : goal.returns
returns c = search (inside_of, slot_below, read_shut, status_seven, status_read, rules)
