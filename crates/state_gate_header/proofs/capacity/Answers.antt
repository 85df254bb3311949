-- Made by tools/uniform from proofs.txt, not by hand: fa58ddcf14eedd84
use Rattle.state_gate_header.specs.Laws.{capacity_ok}
use Rattle.state_gate_header.proofs.capacity.Goals as goal

pub returns : goal.returns
returns c = capacity_ok c.args.f _ c.requires.inside c.shared_slice_known-1.given _ _ c.requires.f_value c.first_offsets-first.ensures c.last_offsets-last.ensures
