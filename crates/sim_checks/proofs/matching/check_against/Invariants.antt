-- Made by tools/uniform from proofs.txt, not by hand: 7ca3e56948204a9d
use Prim.Native.Nat.{◌+◌}
use Rattle.sim_checks.specs.Steps.{Turning}
use Rattle.sim_checks.specs.Matching.{pair_checked}
use Rattle.sim_checks.proofs.matching.check_against.Given as goal

abbrev pub invariant-loop-j : goal.invariant-loop-j
invariant-loop-j l = Turning (pair_checked l.time l.i) l.initial.area l.area l.f (l.i + 1) l.j l.f.servers
