-- Made by tools/uniform from proofs.txt, not by hand: 22d7c1efcb79b361
use Rattle.state_checks.specs.LogLaws.{due_seen, is_due}
use borrow.Author.Rules.{rules}
use Rattle.state_checks.proofs.see_entry_of.Goals as goal

pub overflow_add-n : goal.overflow_add-n
overflow_add-n c = search (due_seen, rules)

pub overflow_add-n-then-due : goal.overflow_add-n-then-due
overflow_add-n-then-due c = search (due_seen, rules)

pub overflow_mul-n : goal.overflow_mul-n
overflow_mul-n c = search (due_seen, rules)

pub slice_bounds-see_copied-count : goal.slice_bounds-see_copied-count
slice_bounds-see_copied-count c = search (due_seen, rules)

pub slice_bounds-row-start : goal.slice_bounds-row-start
slice_bounds-row-start c = search (due_seen, rules)

pub slice_bounds-row-end : goal.slice_bounds-row-end
slice_bounds-row-end c = search (due_seen, rules)

pub see_copied-requires : goal.see_copied-requires
see_copied-requires c = search (due_seen, rules)

pub returns-then-due : goal.returns-then-due
returns-then-due c = is_due _ _ _ _ _ _ _ (search rules) c.see_copied.ensures

pub returns-else-due : goal.returns-else-due
returns-else-due c = search (due_seen, rules)
