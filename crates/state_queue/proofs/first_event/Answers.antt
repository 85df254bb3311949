-- Made by tools/uniform from proofs.txt, not by hand: 16519fce963fec30
use Rattle.state_queue.specs.Laws.{first_none, first_read, queue_end, first_within}
use borrow.Author.Rules.{rules}
use Rattle.state_queue.proofs.first_event.Goals as goal

pub returns-then-queue_count-eq0 : goal.returns-then-queue_count-eq0
returns-then-queue_count-eq0 c = first_none _ _ _ c.queue_count.ensures c.if-queue_count-eq0.true

pub slice_bounds-first-end : goal.slice_bounds-first-end
slice_bounds-first-end c = search (queue_end, first_within, rules)

pub returns : goal.returns
returns c = first_read _ _ _ _ c.queue_at-at.ensures c.queue_words-w.ensures _ _ c.queue_count.ensures c.if-queue_count-eq0.false c.first.ensures
