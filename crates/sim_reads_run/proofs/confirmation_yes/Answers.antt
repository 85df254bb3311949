-- Made by tools/uniform from proofs.txt, not by hand: 35534bfe73094c35
use Rattle.sim_reads_run.specs.Laws.{confirmation_absent, confirmation_present}
use borrow.Author.Rules.{rules}
use Rattle.sim_reads_run.proofs.confirmation_yes.Goals as goal

pub confirmation_no-requires : goal.confirmation_no-requires
confirmation_no-requires c = search (confirmation_absent, confirmation_present, rules)

pub confirmation_some-requires : goal.confirmation_some-requires
confirmation_some-requires c = search (confirmation_absent, confirmation_present, rules)

pub returns-in-None : goal.returns-in-None
returns-in-None c = search (confirmation_absent, confirmation_present, rules)

pub returns-in-Some : goal.returns-in-Some
returns-in-Some c = search (confirmation_absent, confirmation_present, rules)
