-- Made by tools/uniform from proofs.txt, not by hand: 8a87d1b2d3c0f544
use Rattle.state_server.specs.Laws.{state_put}
use Rattle.state_server.proofs.set_server.Goals as goal

pub returns : goal.returns
returns c = state_put _ _ _ _ _ c.requires.k_lt_servers c.block_in-at.ensures _ c.store_state.ensures
