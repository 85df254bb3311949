-- Made by tools/uniform from proofs.txt, not by hand: b81f67987cc33da6
use Rattle.raft_log.specs.Laws.{cleared}
use Rattle.raft_log.proofs.clear.Goals as goal

pub returns : goal.returns
returns c = cleared _ _ _ _ c.fill_zero.ensures
