-- Made by tools/uniform from proofs.txt, not by hand: 77c0307c34f31583
use Rattle.state_server.specs.Laws.{forgotten_done}
use Rattle.state_server.proofs.forget.Goals as goal

pub returns : goal.returns
returns c = forgotten_done _ _ _ _ _ _ c.requires.k_lt_servers c.pending_count-n.ensures c.pending_in-a.ensures _ _ _ c.remove-m.ensures c.store_count.ensures
