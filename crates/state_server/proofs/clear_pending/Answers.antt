-- Made by tools/uniform from proofs.txt, not by hand: 97bc73ae83b2f0f0
use Rattle.state_server.specs.Laws.{cleared_done}
use Rattle.state_server.proofs.clear_pending.Goals as goal

pub returns : goal.returns
returns c = cleared_done _ _ _ _ _ _ c.requires.k_lt_servers c.pending_count-n.ensures c.pending_in-a.ensures _ c.fill_zero.ensures c.store_count.ensures
