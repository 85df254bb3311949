-- Made by tools/uniform from proofs.txt, not by hand: d708180b81645e22
use Rattle.checks_on_status.specs.MissingLaws.{Seeking}
use Rattle.checks_on_status.proofs.first_missing.Given as goal

abbrev pub invariant-loop-i : goal.invariant-loop-i
invariant-loop-i l = Seeking l.p l.l l.m l.log l.applied l.i
