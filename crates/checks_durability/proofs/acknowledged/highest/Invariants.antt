-- Made by tools/uniform from proofs.txt, not by hand: 765af1c540ff8692
use Rattle.checks_durability.specs.MissingLaws.{Rising}
use Rattle.checks_durability.proofs.acknowledged.highest.Given as goal

abbrev pub invariant-loop-k : goal.invariant-loop-k
invariant-loop-k l = Rising l.n l.s l.best l.k
