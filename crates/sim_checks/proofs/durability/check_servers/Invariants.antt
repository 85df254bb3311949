-- Made by tools/uniform from proofs.txt, not by hand: d2b395f3ace80483
use Rattle.sim_checks.specs.Steps.{Turning}
use Rattle.sim_checks.specs.Durability.{server_checked}
use Rattle.sim_checks.proofs.durability.check_servers.Given as goal

abbrev pub invariant-loop-k : goal.invariant-loop-k
invariant-loop-k l = Turning (server_checked l.time l.highest) l.initial.area l.area l.f 0 l.k l.f.servers
