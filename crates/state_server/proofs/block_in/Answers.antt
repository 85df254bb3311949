-- Made by tools/uniform from proofs.txt, not by hand: bd8daa1e4864f493
use Rattle.state_server.specs.Laws.{block_in}
use Rattle.state_server.proofs.block_in.Goals as goal

pub returns : goal.returns
returns c = block_in _ _ _ _ c.requires.inside c.block_at.ensures
