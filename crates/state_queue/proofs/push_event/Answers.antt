-- Made by tools/uniform from proofs.txt, not by hand: cceb7b1407260d0f
use Rattle.state_queue.specs.Laws.{push_full, push_put, queue_end, row_within}
use borrow.Author.Rules.{rules}
use Rattle.state_queue.proofs.push_event.Goals as goal

pub returns-then-limits-n : goal.returns-then-limits-n
returns-then-limits-n c = push_full _ _ _ c.queue_count-n.ensures _ c.if-limits-n.true

pub slice_bounds-push-end : goal.slice_bounds-push-end
slice_bounds-push-end c = search (queue_end, row_within, rules)

pub returns : goal.returns
returns c = push_put _ _ _ _ c.queue_at-at.ensures c.queue_words-w.ensures _ _ _ _ c.queue_count-n.ensures c.push.ensures c.store.ensures
