-- Made by tools/uniform from proofs.txt, not by hand: 710e3b8de1a1d038
use Rattle.std.proofs.Math.ListN.{length}
use Rattle.words.specs.Runs.{Up}
use Rattle.words.proofs.copy_from.Given as goal

abbrev pub invariant-loop-k : goal.invariant-loop-k
invariant-loop-k l = Up l.initial.dst l.src l.at (length l.src) l.dst l.k
