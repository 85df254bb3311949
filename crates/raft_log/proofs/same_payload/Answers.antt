-- Made by tools/uniform from proofs.txt, not by hand: bfe0cb8a47669559
use Rattle.raft_log.specs.Laws.{compared}
use Rattle.raft_log.proofs.same_payload.Goals as goal

pub returns : goal.returns
returns c = let h = c.requires in compared _ _ _ _ _ _ _ _ _ h.0 h.1 h.2 h.3 c.start_of-at.ensures.0 c.start_of-at2.ensures.0 c.equal.ensures
