-- Made by tools/uniform from proofs.txt, not by hand: 85c9f50621bcd4b5
use Rattle.sim_checks.specs.Steps.{Turning}
use Rattle.sim_checks.specs.Matching.{against_checked}
use Rattle.sim_checks.proofs.matching.check_pairs.Given as goal

abbrev pub invariant-loop-i : goal.invariant-loop-i
invariant-loop-i l = Turning (against_checked l.time l.f.servers) l.initial.area l.area l.f 0 l.i l.f.servers
