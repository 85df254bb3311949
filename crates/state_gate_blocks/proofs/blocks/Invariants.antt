-- Made by tools/uniform from proofs.txt, not by hand: a8641345edf97d96
use Prim.Native.Nat.{◌-◌}
use Rattle.state_gate_blocks.specs.Laws.{Checked}
use Rattle.state_gate_blocks.proofs.blocks.Given as goal

abbrev pub invariant-loop-i : goal.invariant-loop-i
invariant-loop-i l = Checked l.f l.s l.i
