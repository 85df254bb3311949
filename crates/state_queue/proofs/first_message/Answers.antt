-- Made by tools/uniform from proofs.txt, not by hand: 5c657b151d3ad382
use Rattle.state_queue.specs.Laws.{message_copied, queue_end, first_within}
use borrow.Author.Rules.{rules}
use Rattle.state_queue.proofs.first_message.Goals as goal

pub slice_bounds-first_message-end : goal.slice_bounds-first_message-end
slice_bounds-first_message-end c = search (queue_end, first_within, rules)

pub returns : goal.returns
returns c = message_copied _ _ _ _ c.queue_at-at.ensures c.queue_words-w.ensures _ _ _ c.first_message.ensures
