-- Made by tools/uniform from proofs.txt, not by hand: 315bd58eb630a38a
use Rattle.raft_log.specs.Laws.{Counting}
use Rattle.raft_log.proofs.count_from.Given as goal

abbrev pub invariant-loop-i : goal.invariant-loop-i
invariant-loop-i l = Counting l.p l.n l.s l.from l.r l.i
