-- Made by tools/uniform from proofs.txt, not by hand: e3305cf9c6c23f61
use Rattle.checks_log_matching.specs.PairLaws.{CountingAfter}
use Rattle.checks_log_matching.proofs.pairs.mismatches_after.Given as goal

abbrev pub invariant-loop-j : goal.invariant-loop-j
invariant-loop-j l = CountingAfter l.p l.n l.servers l.stride l.from l.blocks l.i l.r l.j
