-- Made by tools/uniform from proofs.txt, not by hand: 0121282f018b3f36
use Rattle.state_checks.specs.LogLaws.{copies_entry, log_inside, log_room}
use borrow.Author.Rules.{rules}
use Rattle.state_checks.proofs.copy_entry.Goals as goal

pub block_at-at-requires : goal.block_at-at-requires
block_at-at-requires c = search (copies_entry, log_inside, log_room, rules)

pub log_words-w-requires : goal.log_words-w-requires
log_words-w-requires c = search (copies_entry, log_inside, log_room, rules)

pub overflow_add-a : goal.overflow_add-a
overflow_add-a c = search (copies_entry, log_inside, log_room, rules)

pub overflow_mul-a : goal.overflow_mul-a
overflow_mul-a c = search (copies_entry, log_inside, log_room, rules)

pub overflow_add-e : goal.overflow_add-e
overflow_add-e c = search (copies_entry, log_inside, log_room, rules)

pub overflow_add-e-2 : goal.overflow_add-e-2
overflow_add-e-2 c = search (copies_entry, log_inside, log_room, rules)

pub overflow_mul-e : goal.overflow_mul-e
overflow_mul-e c = search (copies_entry, log_inside, log_room, rules)

pub slice_bounds-copy_row-count : goal.slice_bounds-copy_row-count
slice_bounds-copy_row-count c = search (copies_entry, log_inside, log_room, rules)

pub slice_bounds-copy_row-start : goal.slice_bounds-copy_row-start
slice_bounds-copy_row-start c = search (copies_entry, log_inside, log_room, rules)

pub slice_bounds-copy_row-end : goal.slice_bounds-copy_row-end
slice_bounds-copy_row-end c = search (copies_entry, log_inside, log_room, rules)

pub copy_row-requires : goal.copy_row-requires
copy_row-requires c = search (copies_entry, log_inside, log_room, rules)

pub returns : goal.returns
returns c = copies_entry _ _ _ _ _ _ _ _ (search rules) (search rules) c.block_at-at.ensures c.log_words-w.ensures c.copy_row.ensures
