-- Made by tools/uniform from proofs.txt, not by hand: b063f30dddb30aaa
use Rattle.words.specs.Lift.{Stored}
use Rattle.words.proofs.store_all.Given as goal

abbrev pub invariant-loop-k : goal.invariant-loop-k
invariant-loop-k l = Stored l.initial.s l.vs l.i l.s l.k
