-- Made by tools/uniform from proofs.txt, not by hand: a0cd3fb9f7a6e00b
use Rattle.sim_reads_run.specs.Laws.{index_none, index_some}
use borrow.Author.Rules.{rules}
use Rattle.sim_reads_run.proofs.index_number.Goals as goal

pub returns-in-None : goal.returns-in-None
returns-in-None c = search (index_none, index_some, rules)

pub returns-in-Some : goal.returns-in-Some
returns-in-Some c = search (index_none, index_some, rules)
