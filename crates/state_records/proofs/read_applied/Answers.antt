-- Made by tools/uniform from proofs.txt, not by hand: c2729253a7ad96e8
use Rattle.state_records.specs.ReadRows.{index_none, index_past, index_read, applied_end, applied_rows}
use borrow.Author.Rules.{rules}
use Rattle.state_records.proofs.read_applied.Goals as goal

pub applied_count-n-requires : goal.applied_count-n-requires
applied_count-n-requires c = search (applied_end, applied_rows, rules)

pub returns-then-i-lt1 : goal.returns-then-i-lt1
returns-then-i-lt1 c = index_none _ _ _ _ c.if-i-lt1.true

pub returns-then-limits-n : goal.returns-then-limits-n
returns-then-limits-n c = index_past _ _ _ c.applied_count-n.ensures _ _ c.if-limits-n.true

pub applied_at-at-requires : goal.applied_at-at-requires
applied_at-at-requires c = search (applied_end, applied_rows, rules)

pub applied_words-w-requires : goal.applied_words-w-requires
applied_words-w-requires c = search (applied_end, applied_rows, rules)

pub overflow_mul-a : goal.overflow_mul-a
overflow_mul-a c = search (applied_end, applied_rows, rules)

pub overflow_add-e : goal.overflow_add-e
overflow_add-e c = search (applied_end, applied_rows, rules)

pub overflow_mul-e : goal.overflow_mul-e
overflow_mul-e c = search (applied_end, applied_rows, rules)

pub slice_bounds-read_place-count : goal.slice_bounds-read_place-count
slice_bounds-read_place-count c = search (applied_end, applied_rows, rules)

pub slice_bounds-read_place-start : goal.slice_bounds-read_place-start
slice_bounds-read_place-start c = search (applied_end, applied_rows, rules)

pub slice_bounds-read_place-end : goal.slice_bounds-read_place-end
slice_bounds-read_place-end c = search (applied_end, applied_rows, rules)

pub read_place-requires : goal.read_place-requires
read_place-requires c = search (applied_end, applied_rows, rules)

pub returns : goal.returns
returns c = index_read _ _ _ c.applied_count-n.ensures _ _ c.applied_at-at.ensures c.applied_words-w.ensures _ _ _ _ c.if-i-lt1.false c.read_place.ensures
