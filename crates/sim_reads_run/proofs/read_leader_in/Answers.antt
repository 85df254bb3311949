-- Made by tools/uniform from proofs.txt, not by hand: 35a11f39cfe7b379
use Rattle.state.specs.Exits.{inside_of, read_shut}
use Rattle.sim_reads_run.specs.Laws.{leader_read}
use borrow.Author.Rules.{rules}
use Rattle.sim_reads_run.proofs.read_leader_in.Goals as goal

pub leader_no-requires : goal.leader_no-requires
leader_no-requires c = search (inside_of, read_shut, leader_read, rules)

pub returns-then-refusal-gt0 : goal.returns-then-refusal-gt0
returns-then-refusal-gt0 c = search (inside_of, read_shut, leader_read, rules)

pub leader_of-leader-requires : goal.leader_of-leader-requires
leader_of-leader-requires c = search (inside_of, read_shut, leader_read, rules)

pub leader_yes-requires : goal.leader_yes-requires
leader_yes-requires c = search (inside_of, read_shut, leader_read, rules)

pub returns : goal.returns
returns c = search (inside_of, read_shut, leader_read, rules)
