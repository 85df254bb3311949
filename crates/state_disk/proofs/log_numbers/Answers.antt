-- Made by tools/uniform from proofs.txt, not by hand: e2a2a5791536f8c1
use Rattle.raft_log.specs.Laws.{gapped}
use Rattle.state_disk.specs.Laws.{numbers_read}
use borrow.Author.Rules.{rules}
use Rattle.state_disk.proofs.log_numbers.Goals as goal

pub log_in-d-requires : goal.log_in-d-requires
log_in-d-requires c = search (numbers_read, gapped, rules)

pub slice_bounds-last_index-count : goal.slice_bounds-last_index-count
slice_bounds-last_index-count c = search (numbers_read, gapped, rules)

pub slice_bounds-last_index-start : goal.slice_bounds-last_index-start
slice_bounds-last_index-start c = search (numbers_read, gapped, rules)

pub slice_bounds-last_index-end : goal.slice_bounds-last_index-end
slice_bounds-last_index-end c = search (numbers_read, gapped, rules)

pub last_index-last-requires : goal.last_index-last-requires
last_index-last-requires c = search (numbers_read, gapped, rules)

pub slice_bounds-count-count : goal.slice_bounds-count-count
slice_bounds-count-count c = search (numbers_read, gapped, rules)

pub slice_bounds-count-start : goal.slice_bounds-count-start
slice_bounds-count-start c = search (numbers_read, gapped, rules)

pub slice_bounds-count-end : goal.slice_bounds-count-end
slice_bounds-count-end c = search (numbers_read, gapped, rules)

pub count-count-requires : goal.count-count-requires
count-count-requires c = search (numbers_read, gapped, rules)

pub overflow_sub-result : goal.overflow_sub-result
overflow_sub-result c = search (numbers_read, gapped, rules)

pub returns : goal.returns
returns c = numbers_read _ _ _ _ c.requires.k_lt_servers c.log_in-d.ensures _ _ c.last_index-last.ensures c.count-count.ensures
