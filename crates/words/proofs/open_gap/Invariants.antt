-- Made by tools/uniform from proofs.txt, not by hand: 9dcab80d22a89afa
use Rattle.words.specs.Runs.{Down}
use Rattle.words.proofs.open_gap.Given as goal

abbrev pub invariant-loop-k : goal.invariant-loop-k
invariant-loop-k l = Down l.initial.s l.at l.end l.w l.s l.k
