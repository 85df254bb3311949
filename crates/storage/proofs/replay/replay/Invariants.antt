-- Made by tools/uniform from proofs.txt, not by hand: 6fc1ab047fc70e3e
use Rattle.storage.specs.ReplayLaws.{Replaying}
use Rattle.storage.proofs.replay.replay.Given as goal

abbrev pub invariant-loop-k : goal.invariant-loop-k
invariant-loop-k l = Replaying l.p l.places l.rows l.m l.initial.next l.initial.disk l.next l.disk l.k
