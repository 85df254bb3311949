-- Made by tools/uniform from proofs.txt, not by hand: 4af23273dc69c9d2
use Rattle.state_server.specs.Laws.{has_read}
use Rattle.state_server.proofs.has_pending.Goals as goal

pub returns : goal.returns
returns c = has_read _ _ _ _ _ c.requires.k_lt_servers c.pending_count-n.ensures c.pending_in-a.ensures _ _ c.contains.ensures
