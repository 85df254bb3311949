-- Made by tools/uniform from proofs.txt, not by hand: 864e7e78d1c1c8a9
use Rattle.sim_reads_run.specs.Laws.{leader_absent, leader_present}
use borrow.Author.Rules.{rules}
use Rattle.sim_reads_run.proofs.leader_yes.Goals as goal

pub leader_no-requires : goal.leader_no-requires
leader_no-requires c = search (leader_absent, leader_present, rules)

pub way_copy_out-id : goal.way_copy_out-id
way_copy_out-id c = search (leader_absent, leader_present, rules)

pub way_copy_out-term : goal.way_copy_out-term
way_copy_out-term c = search (leader_absent, leader_present, rules)

pub returns-in-None : goal.returns-in-None
returns-in-None c = search (leader_absent, leader_present, rules)

pub returns-in-Some : goal.returns-in-Some
returns-in-Some c = search (leader_absent, leader_present, rules)
