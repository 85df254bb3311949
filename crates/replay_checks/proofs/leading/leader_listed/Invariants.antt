-- Made by tools/uniform from proofs.txt, not by hand: b1a0d96f2720bf53
use Prim.Native.Nat.{◌≤◌}
use Rattle.replay_checks.proofs.leading.leader_listed.Given as goal

abbrev pub invariant-loop-k : goal.invariant-loop-k
invariant-loop-k l = l.n ≤ l.k
