-- Made by tools/uniform from proofs.txt, not by hand: cf95c1cd4f4aa0d0
use Rattle.sim_faults.specs.Laws.{leader_none, leader_some}
use borrow.Author.Rules.{rules}
use Rattle.sim_faults.proofs.servers.crash_leader.Goals as goal

pub leader_of-requires : goal.leader_of-requires
leader_of-requires c = search (leader_none, leader_some, rules)

pub close_phase-requires : goal.close_phase-requires
close_phase-requires c = search (leader_none, leader_some, rules)

pub stop_leader-requires : goal.stop_leader-requires
stop_leader-requires c = search (leader_none, leader_some, rules)

pub returns-in-None : goal.returns-in-None
returns-in-None c = search (leader_none, leader_some, rules)

pub returns-in-Some : goal.returns-in-Some
returns-in-Some c = search (leader_none, leader_some, rules)
