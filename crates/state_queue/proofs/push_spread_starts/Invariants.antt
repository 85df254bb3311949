-- Made by tools/uniform from proofs.txt, not by hand: 1171cae42958a58e
use Prim.Native.Nat.{◌-◌}
use Rattle.state_queue.specs.Events.{Starting}
use Rattle.state_queue.proofs.push_spread_starts.Given as goal

abbrev pub invariant-loop-slot : goal.invariant-loop-slot
invariant-loop-slot l = Starting l.initial.area l.f l.spread l.initial.next l.area l.next l.slot
