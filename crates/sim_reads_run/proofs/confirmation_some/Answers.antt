-- Made by tools/uniform from proofs.txt, not by hand: 3d28dab31d4f4fa3
use Rattle.sim_reads_run.specs.Laws.{confirmation_told_lem}
use borrow.Author.Rules.{rules}
use Rattle.sim_reads_run.proofs.confirmation_some.Goals as goal

pub index_flag-requires : goal.index_flag-requires
index_flag-requires c = search (confirmation_told_lem, rules)

pub index_number-requires : goal.index_number-requires
index_number-requires c = search (confirmation_told_lem, rules)

pub returns : goal.returns
returns c = search (confirmation_told_lem, rules)
