-- Made by tools/uniform from proofs.txt, not by hand: bf643835f92105f4
use Rattle.state_gate_header.specs.Laws.{violations_ok}
use Rattle.state_gate_header.proofs.violations.Goals as goal

pub returns : goal.returns
returns c = violations_ok _ _ c.requires c.shared_slice_known-1.given _ _ c.load-n.ensures c.check.ensures
