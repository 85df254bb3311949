-- Made by tools/uniform from proofs.txt, not by hand: 469743556295ca8b
use Rattle.checks_log_matching.specs.Laws.{Searching}
use Rattle.checks_log_matching.proofs.log_matching_failure.Given as goal

abbrev pub invariant-loop-i : goal.invariant-loop-i
invariant-loop-i l = Searching l.p l.n l.a l.b l.shared l.difference l.i
