-- Made by tools/uniform from proofs.txt, not by hand: 54379a5779ededc4
use Rattle.state_checks.specs.EntryLaws.{entries_known, entry_there, entry_absent, seen_inside, seen_rows}
use borrow.Author.Rules.{rules}
use Rattle.state_checks.proofs.is_unseen.Goals as goal

pub seen_at-at-requires : goal.seen_at-at-requires
seen_at-at-requires c = search (entries_known, seen_inside, seen_rows, rules)

pub seen_words-all-requires : goal.seen_words-all-requires
seen_words-all-requires c = search (entries_known, seen_inside, seen_rows, rules)

pub overflow_mul-a : goal.overflow_mul-a
overflow_mul-a c = search (entries_known, seen_inside, seen_rows, rules)

pub overflow_add-e : goal.overflow_add-e
overflow_add-e c = search (entries_known, seen_inside, seen_rows, rules)

pub overflow_mul-e : goal.overflow_mul-e
overflow_mul-e c = search (entries_known, seen_inside, seen_rows, rules)

pub overflow_add-w : goal.overflow_add-w
overflow_add-w c = search (entries_known, seen_inside, seen_rows, rules)

pub overflow_add-w-2 : goal.overflow_add-w-2
overflow_add-w-2 c = search (entries_known, seen_inside, seen_rows, rules)

pub slice_bounds-find-count : goal.slice_bounds-find-count
slice_bounds-find-count c = search (entries_known, seen_inside, seen_rows, rules)

pub slice_bounds-find-start : goal.slice_bounds-find-start
slice_bounds-find-start c = search (entries_known, seen_inside, seen_rows, rules)

pub slice_bounds-find-end : goal.slice_bounds-find-end
slice_bounds-find-end c = search (entries_known, seen_inside, seen_rows, rules)

pub find-requires : goal.find-requires
find-requires c = search (entries_known, seen_inside, seen_rows, rules)

pub returns-in-Ok : goal.returns-in-Ok
returns-in-Ok c = entry_there _ _ _ _ _ _ _ _ (search rules) (search rules) c.seen_at-at.ensures c.seen_words-all.ensures c.find.ensures _ c.in-Ok.is

pub returns-in-Err : goal.returns-in-Err
returns-in-Err c = entry_absent _ _ _ _ _ _ _ _ (search rules) (search rules) c.seen_at-at.ensures c.seen_words-all.ensures c.find.ensures _ c.in-Err.is
