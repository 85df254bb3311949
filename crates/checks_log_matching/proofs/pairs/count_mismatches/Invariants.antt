-- Made by tools/uniform from proofs.txt, not by hand: 16b65d3b6937215c
use Rattle.checks_log_matching.specs.PairLaws.{CountingAll}
use Rattle.checks_log_matching.proofs.pairs.count_mismatches.Given as goal

abbrev pub invariant-loop-i : goal.invariant-loop-i
invariant-loop-i l = CountingAll l.p l.n l.servers l.stride l.from l.blocks l.r l.i
