-- Made by tools/uniform from proofs.txt, not by hand: 5a0aa8768a8ebc99
use Prim.Native.Nat.{◌≤◌}
use Rattle.replay.proofs.compared.Given as goal

abbrev pub invariant-loop-i : goal.invariant-loop-i
invariant-loop-i g l = (goal.F-IsAlwaysCallable g l.agrees) × (l.differ ≤ l.i)
