-- Made by tools/uniform from proofs.txt, not by hand: 94cbd7f1beeb3734
use Rattle.state_asks.specs.StatusLaws.{raft_checks_read}
use Rattle.state_asks.proofs.status.raft_checks_of.Goals as goal

pub returns : goal.returns
returns c = raft_checks_read _ _ _ c.load.ensures
