-- Made by tools/uniform from proofs.txt, not by hand: d3d14cd47dd95f10
use Rattle.words.specs.Words.{W}
use Rattle.layout.specs.TableLaws.{Rowed}
use Rattle.storage.specs.Waiting.{waiting_in}
use Rattle.storage.proofs.waiting.check_writes.Given as goal

abbrev pub invariant-loop-i : goal.invariant-loop-i
invariant-loop-i l = Rowed (waiting_in l.n l.p).row l.m (W l.s) l.i
