-- Made by tools/uniform from proofs.txt, not by hand: be1605dd7989c5bd
use Rattle.state_gate_header.specs.Laws.{phase_ok}
use Rattle.state_gate_header.proofs.phase.Goals as goal

pub returns : goal.returns
returns c = phase_ok _ _ c.requires c.shared_slice_known-1.given _ _ c.load_open-o.ensures c.«open».ensures
