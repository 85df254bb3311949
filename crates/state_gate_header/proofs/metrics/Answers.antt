-- Made by tools/uniform from proofs.txt, not by hand: ac8bbf1e5b6d6ab4
use Rattle.state_gate_header.specs.Laws.{metrics_ok}
use Rattle.state_gate_header.proofs.metrics.Goals as goal

pub returns : goal.returns
returns c = metrics_ok _ _ c.requires c.shared_slice_known-1.given _ c.check.ensures
