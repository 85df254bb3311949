-- Made by tools/uniform from proofs.txt, not by hand: 1cec9c4591cb2f3a
use Rattle.state.specs.Exits.{inside_of}
use Rattle.sim_reads.specs.Laws.{slot_below}
use Rattle.sim_reads.specs.EntryLaws.{entry_shut, entry_seven, entry_nine, entry_read}
use borrow.Author.Rules.{rules}
use Rattle.sim_reads.proofs.read_entry_in.Goals as goal

pub entry_no-requires : goal.entry_no-requires
entry_no-requires c = search (inside_of, slot_below, entry_shut, entry_seven, entry_nine, entry_read, rules)

pub returns-then-refusal-gt0 : goal.returns-then-refusal-gt0
returns-then-refusal-gt0 c = search (inside_of, slot_below, entry_shut, entry_seven, entry_nine, entry_read, rules)

pub server_asked-asked-requires : goal.server_asked-asked-requires
server_asked-asked-requires c = search (inside_of, slot_below, entry_shut, entry_seven, entry_nine, entry_read, rules)

pub entry_no-requires-then-code-gt0 : goal.entry_no-requires-then-code-gt0
entry_no-requires-then-code-gt0 c = search (inside_of, slot_below, entry_shut, entry_seven, entry_nine, entry_read, rules)

pub returns-then-code-gt0 : goal.returns-then-code-gt0
returns-then-code-gt0 c = search (inside_of, slot_below, entry_shut, entry_seven, entry_nine, entry_read, rules)

pub entry_no-requires-then-buffer-limits : goal.entry_no-requires-then-buffer-limits
entry_no-requires-then-buffer-limits c = search (inside_of, slot_below, entry_shut, entry_seven, entry_nine, entry_read, rules)

pub returns-then-buffer-limits : goal.returns-then-buffer-limits
returns-then-buffer-limits c = search (inside_of, slot_below, entry_shut, entry_seven, entry_nine, entry_read, rules)

pub read_entry-place-requires : goal.read_entry-place-requires
read_entry-place-requires c = search (inside_of, slot_below, entry_shut, entry_seven, entry_nine, entry_read, rules)

pub entry_yes-requires : goal.entry_yes-requires
entry_yes-requires c = search (inside_of, slot_below, entry_shut, entry_seven, entry_nine, entry_read, rules)

pub returns : goal.returns
returns c = search (inside_of, slot_below, entry_shut, entry_seven, entry_nine, entry_read, rules)
