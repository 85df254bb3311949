-- Made by tools/uniform from proofs.txt, not by hand: bf33b4ecd9723781
use Rattle.sim_seal_sync.specs.Syncs.{Checking}
use Rattle.sim_seal_sync.proofs.check_writes.Given as goal

abbrev pub invariant-loop-i : goal.invariant-loop-i
invariant-loop-i l = Checking l.initial.area l.f l.slot l.n l.area l.i
