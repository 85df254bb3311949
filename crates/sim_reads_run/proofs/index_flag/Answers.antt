-- Made by tools/uniform from proofs.txt, not by hand: 201cfd5621b810b6
use Rattle.sim_reads_run.specs.Laws.{flag_none, flag_some}
use borrow.Author.Rules.{rules}
use Rattle.sim_reads_run.proofs.index_flag.Goals as goal

pub returns-in-None : goal.returns-in-None
returns-in-None c = search (flag_none, flag_some, rules)

pub returns-in-Some : goal.returns-in-Some
returns-in-Some c = search (flag_none, flag_some, rules)
