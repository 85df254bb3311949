-- Made by tools/uniform from proofs.txt, not by hand: 2a3ed61d0414e82b
use Rattle.state_asks.specs.DurabilityLaws.{Filling}
use Rattle.state_asks.proofs.durability.applied_up_to.Given as goal

abbrev pub invariant-loop-k : goal.invariant-loop-k
invariant-loop-k l = Filling l.area l.f l.k l.up_to
