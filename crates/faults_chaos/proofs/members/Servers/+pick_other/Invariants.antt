-- The draws that are left fall with each call of itself.
use Rattle.faults_chaos.proofs.members.Servers.+pick_other.Given as goal

abbrev pub decreases-pick_other : goal.decreases-pick_other
decreases-pick_other l = l.most
