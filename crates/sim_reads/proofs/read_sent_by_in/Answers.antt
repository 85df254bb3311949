-- Made by tools/uniform from proofs.txt, not by hand: 7c0a75402b7dfc03
use Rattle.state.specs.Exits.{inside_of, read_shut}
use Rattle.sim_reads.specs.Laws.{slot_below, sent_by_seven, sent_by_read}
use borrow.Author.Rules.{rules}
use Rattle.sim_reads.proofs.read_sent_by_in.Goals as goal

pub sent_by_no-requires : goal.sent_by_no-requires
sent_by_no-requires c = search (inside_of, slot_below, read_shut, sent_by_seven, sent_by_read, rules)

pub returns-then-refusal-gt0 : goal.returns-then-refusal-gt0
returns-then-refusal-gt0 c = search (inside_of, slot_below, read_shut, sent_by_seven, sent_by_read, rules)

pub server_asked-asked-requires : goal.server_asked-asked-requires
server_asked-asked-requires c = search (inside_of, slot_below, read_shut, sent_by_seven, sent_by_read, rules)

pub sent_by_no-requires-then-code-gt0 : goal.sent_by_no-requires-then-code-gt0
sent_by_no-requires-then-code-gt0 c = search (inside_of, slot_below, read_shut, sent_by_seven, sent_by_read, rules)

pub returns-then-code-gt0 : goal.returns-then-code-gt0
returns-then-code-gt0 c = search (inside_of, slot_below, read_shut, sent_by_seven, sent_by_read, rules)

pub sent_at-sent-requires : goal.sent_at-sent-requires
sent_at-sent-requires c = search (inside_of, slot_below, read_shut, sent_by_seven, sent_by_read, rules)

pub sent_by_yes-requires : goal.sent_by_yes-requires
sent_by_yes-requires c = search (inside_of, slot_below, read_shut, sent_by_seven, sent_by_read, rules)

pub returns : goal.returns
returns c = search (inside_of, slot_below, read_shut, sent_by_seven, sent_by_read, rules)
