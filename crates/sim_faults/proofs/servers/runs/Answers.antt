-- Made by tools/uniform from proofs.txt, not by hand: eb583e8a26ccb73b
use Rattle.sim_faults.specs.Laws.{runs_no, runs_yes}
use borrow.Author.Rules.{rules}
use Rattle.sim_faults.proofs.servers.runs.Goals as goal

pub status_of-requires : goal.status_of-requires
status_of-requires c = search (runs_no, runs_yes, rules)

pub returns-in-None : goal.returns-in-None
returns-in-None c = search (runs_no, runs_yes, rules)

pub returns-in-Some : goal.returns-in-Some
returns-in-Some c = search (runs_no, runs_yes, rules)
