-- Made by tools/uniform from proofs.txt, not by hand: 8be6f1ac20fb938a
use Rattle.sim_reads_report.specs.Laws.{metrics_are}
use borrow.Author.Rules.{rules}
use Rattle.sim_reads_report.proofs.metrics_told.Goals as goal

pub metrics_of-m-requires : goal.metrics_of-m-requires
metrics_of-m-requires c = search (metrics_are, rules)

pub returns : goal.returns
returns c = search (metrics_are, rules)
