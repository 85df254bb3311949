-- Made by tools/uniform from proofs.txt, not by hand: b01a8021b516df43
use Rattle.raft_log.specs.Laws.{Seeking}
use Rattle.raft_log.proofs.last_index.Given as goal

abbrev pub invariant-loop-i : goal.invariant-loop-i
invariant-loop-i l = Seeking l.p l.n l.s l.i
