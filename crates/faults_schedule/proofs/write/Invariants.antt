-- Made by tools/uniform from proofs.txt, not by hand: 95cd432b4ca8d479
use Prim.Native.Nat.{◌-◌, ◌/◌}
use lib.ListN.{length}
use Rattle.faults_schedule.proofs.WriteLaws.{Writing}
use Rattle.faults_schedule.proofs.write.Given as goal

abbrev pub invariant-loop-config : goal.invariant-loop-config
invariant-loop-config l = Writing l.servers.ids.now l.config l.initial.list l.initial.next l.gaps l.time l.count l.next l.list

abbrev pub decreases-loop-config : goal.decreases-loop-config
decreases-loop-config l = length l.initial.list / 32 - l.count
