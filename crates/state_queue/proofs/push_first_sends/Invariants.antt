-- Made by tools/uniform from proofs.txt, not by hand: 6c3982e6ab87418f
use Prim.Native.Nat.{◌-◌}
use Rattle.state_queue.specs.Events.{Sending}
use Rattle.state_queue.proofs.push_first_sends.Given as goal

abbrev pub invariant-loop-c : goal.invariant-loop-c
invariant-loop-c l = Sending l.initial.area l.f l.now l.area l.c
