-- Made by tools/uniform from proofs.txt, not by hand: 01b37260c4eab3c0
use Rattle.state_records.specs.DiscardedLaws.{discarded_read, servers_end}
use borrow.Author.Rules.{rules}
use Rattle.state_records.proofs.discarded_by.Goals as goal

pub queue_at-end-requires : goal.queue_at-end-requires
queue_at-end-requires c = search (servers_end, rules)

pub block_at-at-requires : goal.block_at-at-requires
block_at-at-requires c = search (servers_end, rules)

pub overflow_mul-e : goal.overflow_mul-e
overflow_mul-e c = search (servers_end, rules)

pub slice_bounds-load-count : goal.slice_bounds-load-count
slice_bounds-load-count c = search (servers_end, rules)

pub slice_bounds-load-start : goal.slice_bounds-load-start
slice_bounds-load-start c = search (servers_end, rules)

pub slice_bounds-load-end : goal.slice_bounds-load-end
slice_bounds-load-end c = search (servers_end, rules)

pub overflow_sub-at : goal.overflow_sub-at
overflow_sub-at c = search (servers_end, rules)

pub load-requires : goal.load-requires
load-requires c = search (servers_end, rules)

pub returns : goal.returns
returns c = discarded_read _ _ _ c.queue_at-end.ensures _ _ _ c.requires.k_lt_servers c.block_at-at.ensures c.load.ensures
