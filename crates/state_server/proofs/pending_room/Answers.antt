-- Made by tools/uniform from proofs.txt, not by hand: b35a5b0bee7953e5
use Rattle.state_server.specs.Laws.{room_read}
use Rattle.state_server.proofs.pending_room.Goals as goal

pub returns : goal.returns
returns c = room_read _ _ _ _ _ _ c.pending_count-n.ensures c.has_pending-known.ensures
