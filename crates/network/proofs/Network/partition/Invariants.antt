-- Made by tools/uniform from proofs.txt, not by hand: e88587407a42e06d
use Prim.Native.Nat.{◌+◌, ◌/◌, ◌%◌}
use Rattle.network.specs.Network.{separated}
use Rattle.network.specs.Laws.{Links}
use Rattle.network.proofs.Network.partition.Given as goal

abbrev pub invariant-loop-k : goal.invariant-loop-k
invariant-loop-k l = Links (λ i. separated l.groups (i / 8 + 1) (i % 8 + 1)) l.fn.self.blocked l.k l.blocked-items
