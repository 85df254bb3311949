-- Made by tools/uniform from proofs.txt, not by hand: 4a3bbc9734240e6d
use Rattle.state_checks.specs.KeepLaws.{count_read}
use borrow.Author.Rules.{rules}
use Rattle.state_checks.proofs.count_of.Goals as goal

pub slice_bounds-load-count : goal.slice_bounds-load-count
slice_bounds-load-count c = search (count_read, rules)

pub slice_bounds-load-start : goal.slice_bounds-load-start
slice_bounds-load-start c = search (count_read, rules)

pub slice_bounds-load-end : goal.slice_bounds-load-end
slice_bounds-load-end c = search (count_read, rules)

pub load-requires : goal.load-requires
load-requires c = search (count_read, rules)

pub returns : goal.returns
returns c = search (count_read, rules)
