-- Made by tools/uniform from proofs.txt, not by hand: a0c37081931f2d40
use Rattle.std.proofs.Math.ListN.{drop}
use Rattle.words.specs.Runs.{Up}
use Rattle.words.proofs.close_gap.Given as goal

abbrev pub invariant-loop-k : goal.invariant-loop-k
invariant-loop-k l = Up l.initial.s (drop l.from l.initial.s) l.at l.n l.s l.k
