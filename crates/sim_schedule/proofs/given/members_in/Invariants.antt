-- Made by tools/uniform from proofs.txt, not by hand: 0244c78bc41a30b7
use Rattle.sim_schedule.specs.GivenLaws.{Members}
use Rattle.sim_schedule.proofs.given.members_in.Given as goal

abbrev pub invariant-loop-i : goal.invariant-loop-i
invariant-loop-i l = Members l.servers l.groups l.limit l.i
