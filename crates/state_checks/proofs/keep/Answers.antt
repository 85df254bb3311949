-- Made by tools/uniform from proofs.txt, not by hand: 84adb26be46f4c84
use Rattle.state_checks.specs.KeepLaws.{reports, report_past, report_put}
use borrow.Author.Rules.{rules}
use Rattle.state_checks.proofs.keep.Goals as goal

pub returns-then-not-due : goal.returns-then-not-due
returns-then-not-due c = search (reports, rules)

pub count_of-kept-requires : goal.count_of-kept-requires
count_of-kept-requires c = search (reports, rules)

pub count_of-total-requires : goal.count_of-total-requires
count_of-total-requires c = search (reports, rules)

pub returns-then-total : goal.returns-then-total
returns-then-total c = report_past _ _ _ _ _ _ (search rules) _ _ c.count_of-kept.ensures c.count_of-total.ensures (search rules)

pub slice_bounds-keep-count : goal.slice_bounds-keep-count
slice_bounds-keep-count c = search (reports, rules)

pub slice_bounds-keep-start : goal.slice_bounds-keep-start
slice_bounds-keep-start c = search (reports, rules)

pub slice_bounds-keep-end : goal.slice_bounds-keep-end
slice_bounds-keep-end c = search (reports, rules)

pub keep-kept-requires : goal.keep-kept-requires
keep-kept-requires c = search (reports, rules)

pub store-requires : goal.store-requires
store-requires c = search (reports, rules)

pub overflow_add-total : goal.overflow_add-total
overflow_add-total c = search (reports, rules)

pub store-requires-2 : goal.store-requires-2
store-requires-2 c = search (reports, rules)

pub returns : goal.returns
returns c = report_put _ _ _ _ _ _ (search rules) _ _ c.count_of-kept.ensures c.count_of-total.ensures _ _ _ _ c.keep-kept.ensures c.store.ensures c.store-2.ensures
