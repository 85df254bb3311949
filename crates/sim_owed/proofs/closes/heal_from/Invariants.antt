-- Made by tools/uniform from proofs.txt, not by hand: b3025d889a6ceff0
use Rattle.sim_owed.specs.Closes.{HealedTo}
use Rattle.sim_owed.proofs.closes.heal_from.Given as goal

abbrev pub invariant-loop-k : goal.invariant-loop-k
invariant-loop-k l = HealedTo l.initial.area l.f l.place l.area l.k
