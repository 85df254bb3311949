-- Made by tools/uniform from proofs.txt, not by hand: 1efc3ee18f69671a
use Rattle.state_gate_header.specs.Laws.{unused_ok}
use Rattle.state_gate_header.proofs.unused.Goals as goal

pub returns : goal.returns
returns c = unused_ok _ _ c.requires c.shared_slice_known-1.given _ c.all_zero.ensures
