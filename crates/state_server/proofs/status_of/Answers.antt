-- Made by tools/uniform from proofs.txt, not by hand: 8b3ae8d88d9c892f
use Rattle.state_server.specs.Laws.{status_read}
use Rattle.state_server.proofs.status_of.Goals as goal

pub returns : goal.returns
returns c = status_read _ _ _ _ c.requires.k_lt_servers c.block_in-at.ensures _ c.load_status.ensures
