-- Made by tools/uniform from proofs.txt, not by hand: 50e1df9444749be5
use Rattle.state_records.specs.ConfirmationRows.{confirmation_past, confirmation_none, confirmation_read_lem, confirmations_end, confirmations_rows}
use borrow.Author.Rules.{rules}
use Rattle.state_records.proofs.confirmation_of.Goals as goal

pub confirmation_count-n-requires : goal.confirmation_count-n-requires
confirmation_count-n-requires c = search (confirmations_end, confirmations_rows, rules)

pub returns-then-most-n : goal.returns-then-most-n
returns-then-most-n c = confirmation_past _ _ _ c.confirmation_count-n.ensures _ c.if-most-n.true

pub returns-then-n-i : goal.returns-then-n-i
returns-then-n-i c = confirmation_none _ _ _ c.confirmation_count-n.ensures _ c.if-n-i.true

pub confirmations_at-at-requires : goal.confirmations_at-at-requires
confirmations_at-at-requires c = search (confirmations_end, confirmations_rows, rules)

pub overflow_mul-a : goal.overflow_mul-a
overflow_mul-a c = search (confirmations_end, confirmations_rows, rules)

pub overflow_mul-e : goal.overflow_mul-e
overflow_mul-e c = search (confirmations_end, confirmations_rows, rules)

pub overflow_add-e : goal.overflow_add-e
overflow_add-e c = search (confirmations_end, confirmations_rows, rules)

pub overflow_mul-e-2 : goal.overflow_mul-e-2
overflow_mul-e-2 c = search (confirmations_end, confirmations_rows, rules)

pub slice_bounds-read-count : goal.slice_bounds-read-count
slice_bounds-read-count c = search (confirmations_end, confirmations_rows, rules)

pub slice_bounds-read-start : goal.slice_bounds-read-start
slice_bounds-read-start c = search (confirmations_end, confirmations_rows, rules)

pub slice_bounds-read-end : goal.slice_bounds-read-end
slice_bounds-read-end c = search (confirmations_end, confirmations_rows, rules)

pub read-requires : goal.read-requires
read-requires c = search (confirmations_end, confirmations_rows, rules)

pub returns : goal.returns
returns c = confirmation_read_lem _ _ _ c.confirmation_count-n.ensures _ c.confirmations_at-at.ensures _ _ c.read.ensures
