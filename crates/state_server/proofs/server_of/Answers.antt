-- Made by tools/uniform from proofs.txt, not by hand: ea473c8d1186127f
use Rattle.state_server.specs.Laws.{state_read}
use Rattle.state_server.proofs.server_of.Goals as goal

pub returns : goal.returns
returns c = state_read _ _ _ _ c.requires.k_lt_servers c.block_in-at.ensures _ c.load_server_state.ensures
