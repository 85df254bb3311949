-- Made by tools/uniform from proofs.txt, not by hand: b91da17e985b352d
use Rattle.state_queue.specs.Laws.{room_none, room_read}
use Rattle.state_queue.proofs.queue_room.Goals as goal

pub returns-then-limits-n : goal.returns-then-limits-n
returns-then-limits-n c = room_none _ _ _ c.queue_count-n.ensures _ c.if-limits-n.true

pub returns : goal.returns
returns c = room_read _ _ _ c.queue_count-n.ensures _ c.if-limits-n.false
