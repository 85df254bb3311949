-- Made by tools/uniform from proofs.txt, not by hand: 9b2bbe4566bbec3a
use Rattle.sim_start.specs.ContentLaws.{Serving}
use Rattle.sim_start.proofs.content.store_servers.Given as goal

abbrev pub invariant-loop-slot : goal.invariant-loop-slot
invariant-loop-slot l = Serving l.initial.area l.f l.area l.slot
