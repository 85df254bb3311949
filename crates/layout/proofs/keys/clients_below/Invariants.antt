-- Made by tools/uniform from proofs.txt, not by hand: 8bce7891e80dd553
use Rattle.words.specs.Words.{W}
use Rattle.layout.specs.TableLaws.{Rowed}
use Rattle.layout.specs.Keys.{keys}
use Rattle.layout.proofs.keys.clients_below.Given as goal

abbrev pub invariant-loop-i : goal.invariant-loop-i
invariant-loop-i l = Rowed (keys l.clients).row l.n (W l.s) l.i
