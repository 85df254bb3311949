-- Made by tools/uniform from proofs.txt, not by hand: 96c5b359621b5f82
use Rattle.faults_chaos.specs.Splits.{Dealing}
use Rattle.faults_chaos.proofs.members.Servers.deal.Given as goal

abbrev pub invariant-loop-server : goal.invariant-loop-server
invariant-loop-server l = Dealing l.self.ids.now l.initial.dealt.next l.dealt l.server-index
