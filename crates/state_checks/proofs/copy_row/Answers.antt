-- Made by tools/uniform from proofs.txt, not by hand: 64d466222a6353a4
use Rattle.state_checks.specs.LogLaws.{copying, copies_row}
use borrow.Author.Rules.{rules}
use Rattle.state_checks.proofs.copy_row.Goals as goal

pub returns-then-i-lt1 : goal.returns-then-i-lt1
returns-then-i-lt1 c = search (copying, rules)

pub returns-then-l-i : goal.returns-then-l-i
returns-then-l-i c = search (copying, rules)

pub overflow_add-w : goal.overflow_add-w
overflow_add-w c = search (copying, rules)

pub overflow_add-w-2 : goal.overflow_add-w-2
overflow_add-w-2 c = search (copying, rules)

pub overflow_add-w-3 : goal.overflow_add-w-3
overflow_add-w-3 c = search (copying, rules)

pub start_of-at-requires : goal.start_of-at-requires
start_of-at-requires c = search (copying, rules)

pub overflow_mul-a : goal.overflow_mul-a
overflow_mul-a c = search (copying, rules)

pub overflow_add-e : goal.overflow_add-e
overflow_add-e c = search (copying, rules)

pub overflow_mul-e : goal.overflow_mul-e
overflow_mul-e c = search (copying, rules)

pub slice_bounds-copy_from-count : goal.slice_bounds-copy_from-count
slice_bounds-copy_from-count c = search (copying, rules)

pub slice_bounds-copy_from-start : goal.slice_bounds-copy_from-start
slice_bounds-copy_from-start c = search (copying, rules)

pub slice_bounds-copy_from-end : goal.slice_bounds-copy_from-end
slice_bounds-copy_from-end c = search (copying, rules)

pub copy_from-requires : goal.copy_from-requires
copy_from-requires c = search (copying, rules)

pub load-requires : goal.load-requires
load-requires c = search (copying, rules)

pub returns : goal.returns
returns c = copies_row _ _ _ _ _ _ _ _ (search rules) (search rules) (search rules) (search rules) c.start_of-at.ensures.0 c.copy_from.ensures c.load.ensures
