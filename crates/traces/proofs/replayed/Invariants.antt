-- Made by tools/uniform from proofs.txt, not by hand: e98d1e0bc15c5435
use Prim.Native.Nat.{◌≤◌}
use mathlib.Core.Path.{◌≡◌}
use Rattle.traces.proofs.replayed.Given as goal

abbrev pub invariant-loop-place : goal.invariant-loop-place
invariant-loop-place g l = (l.tally.calls ≡ l.place) × (l.tally.differ ≤ l.tally.calls)
