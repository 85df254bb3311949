-- Made by tools/uniform from proofs.txt, not by hand: 089c3eeab5634fdb
use Rattle.sim_checks.specs.Steps.{Turning}
use Rattle.sim_checks.specs.Durability.{reply_checked}
use Rattle.sim_checks.proofs.durability.check_replies.Given as goal

abbrev pub invariant-loop-i : goal.invariant-loop-i
invariant-loop-i l = Turning (reply_checked l.time) l.initial.area l.area l.f 0 l.i l.n
