-- Made by tools/uniform from proofs.txt, not by hand: d4285bfd5cb1a56c
use Rattle.state_checks.specs.EntryLaws.{entry_stored, seen_inside, seen_room}
use borrow.Author.Rules.{rules}
use Rattle.state_checks.proofs.insert_entry.Goals as goal

pub seen_at-at-requires : goal.seen_at-at-requires
seen_at-at-requires c = search (entry_stored, seen_inside, seen_room, rules)

pub seen_words-all-requires : goal.seen_words-all-requires
seen_words-all-requires c = search (entry_stored, seen_inside, seen_room, rules)

pub overflow_mul-a : goal.overflow_mul-a
overflow_mul-a c = search (entry_stored, seen_inside, seen_room, rules)

pub overflow_add-e : goal.overflow_add-e
overflow_add-e c = search (entry_stored, seen_inside, seen_room, rules)

pub overflow_mul-e : goal.overflow_mul-e
overflow_mul-e c = search (entry_stored, seen_inside, seen_room, rules)

pub slice_bounds-insert-count : goal.slice_bounds-insert-count
slice_bounds-insert-count c = search (entry_stored, seen_inside, seen_room, rules)

pub slice_bounds-insert-start : goal.slice_bounds-insert-start
slice_bounds-insert-start c = search (entry_stored, seen_inside, seen_room, rules)

pub slice_bounds-insert-end : goal.slice_bounds-insert-end
slice_bounds-insert-end c = search (entry_stored, seen_inside, seen_room, rules)

pub insert-requires : goal.insert-requires
insert-requires c = search (entry_stored, seen_inside, seen_room, rules)

pub overflow_add-n : goal.overflow_add-n
overflow_add-n c = search (entry_stored, seen_inside, seen_room, rules)

pub store-requires : goal.store-requires
store-requires c = search (entry_stored, seen_inside, seen_room, rules)

pub returns : goal.returns
returns c = entry_stored _ _ _ _ _ _ _ _ _ _ c.requires.inside c.seen_at-at.ensures c.seen_words-all.ensures c.insert.ensures c.store.ensures
