-- Made by tools/uniform from proofs.txt, not by hand: 01beecb24f4a6327
use Prim.Native.Nat.{◌-◌}
use Rattle.state_records.specs.Records.{Adding}
use Rattle.state_records.proofs.discarded_of.Given as goal

abbrev pub invariant-loop-k : goal.invariant-loop-k
invariant-loop-k l = Adding l.area l.f l.value l.k

abbrev pub decreases-loop-k : goal.decreases-loop-k
decreases-loop-k l = l.n - l.k
