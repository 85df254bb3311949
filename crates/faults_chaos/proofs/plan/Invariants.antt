-- Made by tools/uniform from proofs.txt, not by hand: 4f5d204ec9382d00
use Prim.Native.Nat.{◌-◌}
use Rattle.faults_chaos.specs.Plans.{Planning}
use Rattle.faults_chaos.proofs.plan.Given as goal

abbrev pub invariant-loop-config : goal.invariant-loop-config
invariant-loop-config l = Planning l.servers.ids.now l.config l.room l.initial.next l.gaps l.time l.count l.draws l.next

abbrev pub decreases-loop-config : goal.decreases-loop-config
decreases-loop-config l = l.room - l.count
