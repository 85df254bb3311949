-- Made by tools/uniform from proofs.txt, not by hand: f7f915fba22fee3d
use Rattle.sim_reads.specs.Laws.{status_absent, status_present}
use borrow.Author.Rules.{rules}
use Rattle.sim_reads.proofs.status_yes.Goals as goal

pub status_no-requires : goal.status_no-requires
status_no-requires c = search (status_absent, status_present, rules)

pub status_some-requires : goal.status_some-requires
status_some-requires c = search (status_absent, status_present, rules)

pub returns-in-None : goal.returns-in-None
returns-in-None c = search (status_absent, status_present, rules)

pub returns-in-Some : goal.returns-in-Some
returns-in-Some c = search (status_absent, status_present, rules)
