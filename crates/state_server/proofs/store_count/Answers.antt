-- Made by tools/uniform from proofs.txt, not by hand: 89379e22eecf33e2
use Rattle.state_server.specs.Laws.{count_stored}
use Rattle.state_server.proofs.store_count.Goals as goal

pub returns : goal.returns
returns c = count_stored _ _ _ _ _ c.requires.k_lt_servers c.block_in-at.ensures _ c.store.ensures
