-- Made by tools/uniform from proofs.txt, not by hand: 32903c2360e20385
use Rattle.checks_on_write.specs.WritesLaws.{Asking}
use Rattle.checks_on_write.proofs.on_writes.Given as goal

abbrev pub invariant-loop-k : goal.invariant-loop-k
invariant-loop-k l = Asking (record { waiting = l.waiting; writes = l.count; log = l.log; places = l.l; longest = l.p; seen = l.seen; count = l.n; room = l.room; total = l.total }) l.k l.added l.reports l.marks
