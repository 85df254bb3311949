-- Made by tools/uniform from proofs.txt, not by hand: 78fee54cee2b5139
use Rattle.words.specs.Words.{W}
use Rattle.layout.specs.TableLaws.{Rowed}
use Rattle.raft_log.specs.Places.{place}
use Rattle.raft_log.proofs.check_places.Given as goal

abbrev pub invariant-loop-i : goal.invariant-loop-i
invariant-loop-i l = Rowed (place l.p) l.n (W l.s) l.i
