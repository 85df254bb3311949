-- Made by tools/uniform from proofs.txt, not by hand: d7f54dc662e80500
use Rattle.raft_log.specs.Laws.{truncated}
use Rattle.raft_log.proofs.truncate.Goals as goal

pub returns : goal.returns
returns c = let f = c.first_removed-i.ensures in truncated _ _ _ _ _ _ _ _ _ f.0 f.1 f.2 c.count_from-r.ensures c.start-at.ensures.0 c.start-end.ensures.0 c.fill_zero.ensures
