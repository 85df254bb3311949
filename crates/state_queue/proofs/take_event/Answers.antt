-- Made by tools/uniform from proofs.txt, not by hand: 92dd2182e0eedc5c
use Rattle.state_queue.specs.Laws.{take_none, take_past, take_put, queue_end, rows_within}
use borrow.Author.Rules.{rules}
use Rattle.state_queue.proofs.take_event.Goals as goal

pub returns-then-n-eq0 : goal.returns-then-n-eq0
returns-then-n-eq0 c = take_none _ _ _ c.queue_count-n.ensures c.if-n-eq0.true

pub returns-then-limits-n : goal.returns-then-limits-n
returns-then-limits-n c = take_past _ _ _ c.queue_count-n.ensures c.if-limits-n.true

pub slice_bounds-remove_first-end : goal.slice_bounds-remove_first-end
slice_bounds-remove_first-end c = search (queue_end, rows_within, rules)

pub returns : goal.returns
returns c = take_put _ _ _ _ c.queue_at-at.ensures c.queue_words-w.ensures _ _ _ c.queue_count-n.ensures c.remove_first.ensures c.store.ensures
