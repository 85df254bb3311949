-- Made by tools/uniform from proofs.txt, not by hand: 9808206b66ce4655
use Rattle.state_disk.specs.Laws.{entry_read}
use borrow.Author.Rules.{rules}
use Rattle.state_disk.proofs.read_entry.Goals as goal

pub log_in-d-requires : goal.log_in-d-requires
log_in-d-requires c = search (entry_read, rules)

pub slice_bounds-read_entry-count : goal.slice_bounds-read_entry-count
slice_bounds-read_entry-count c = search (entry_read, rules)

pub slice_bounds-read_entry-start : goal.slice_bounds-read_entry-start
slice_bounds-read_entry-start c = search (entry_read, rules)

pub slice_bounds-read_entry-end : goal.slice_bounds-read_entry-end
slice_bounds-read_entry-end c = search (entry_read, rules)

pub read_entry-requires : goal.read_entry-requires
read_entry-requires c = search (entry_read, rules)

pub returns : goal.returns
returns c = entry_read _ _ _ _ c.requires.k_lt_servers c.log_in-d.ensures _ _ _ _ c.read_entry.ensures
