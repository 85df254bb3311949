-- Made by tools/uniform from proofs.txt, not by hand: 87c8e1a9def99ccc
use Rattle.words.specs.Words.{W}
use Rattle.layout.specs.TableLaws.{Rowed}
use Rattle.layout.specs.Payload.{payload}
use Rattle.layout.proofs.applied.payloads.Given as goal

abbrev pub invariant-loop-i : goal.invariant-loop-i
invariant-loop-i l = Rowed (payload l.p) l.n (W l.s) l.i
