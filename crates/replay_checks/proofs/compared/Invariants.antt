-- Made by tools/uniform from proofs.txt, not by hand: a7671974bdd25e8f
use Prim.Native.Nat.{◌≤◌}
use Rattle.replay_checks.proofs.compared.Given as goal

abbrev pub invariant-loop-i : goal.invariant-loop-i
invariant-loop-i g l = (goal.F-IsAlwaysCallable g l.agrees) × (l.differ ≤ l.i)
