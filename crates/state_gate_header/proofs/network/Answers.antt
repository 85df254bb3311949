-- Made by tools/uniform from proofs.txt, not by hand: 6d0c2affeab643ac
use Rattle.state_gate_header.specs.Laws.{network_ok}
use Rattle.state_gate_header.proofs.network.Goals as goal

pub returns : goal.returns
returns c = network_ok _ _ c.requires c.shared_slice_known-1.given _ _ c.load-delay.ensures c.check.ensures
