-- Made by tools/uniform from proofs.txt, not by hand: e2a972541c9d4c40
use Rattle.sim_faults.specs.Laws.{leaderless, leader_due}
use borrow.Author.Rules.{rules}
use Rattle.sim_faults.proofs.servers.crash_leader_fits.Goals as goal

pub leader_of-requires : goal.leader_of-requires
leader_of-requires c = search (leaderless, leader_due, rules)

pub sum64-requires : goal.sum64-requires
sum64-requires c = search (leaderless, leader_due, rules)

pub returns-in-None : goal.returns-in-None
returns-in-None c = search (leaderless, leader_due, rules)

pub returns-in-Some : goal.returns-in-Some
returns-in-Some c = search (leaderless, leader_due, rules)
