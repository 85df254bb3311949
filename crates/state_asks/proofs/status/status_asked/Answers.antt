-- Made by tools/uniform from proofs.txt, not by hand: 662f4b9559364f9d
use Rattle.state_asks.specs.StatusLaws.{status_asked}
use Rattle.state_asks.proofs.status.status_asked.Goals as goal

pub returns : goal.returns
returns c = status_asked c.raft_checks_of-raft_checks.ensures c.leading_of-leading.ensures c.counts_of-counts.ensures c.status_given.ensures
