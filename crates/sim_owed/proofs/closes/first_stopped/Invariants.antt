-- Made by tools/uniform from proofs.txt, not by hand: 065ec082e8569502
use Rattle.sim_owed.specs.Closes.{Sought}
use Rattle.sim_owed.proofs.closes.first_stopped.Given as goal

abbrev pub invariant-loop-k : goal.invariant-loop-k
invariant-loop-k l = Sought l.area l.f l.place l.slot l.running l.k
