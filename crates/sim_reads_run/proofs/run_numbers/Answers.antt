-- Made by tools/uniform from proofs.txt, not by hand: 3575f2f589779b49
use Rattle.sim_reads_run.specs.Laws.{run_told}
use borrow.Author.Rules.{rules}
use Rattle.sim_reads_run.proofs.run_numbers.Goals as goal

pub run_of-run-requires : goal.run_of-run-requires
run_of-run-requires c = search (run_told, rules)

pub counts_of-counts-requires : goal.counts_of-counts-requires
counts_of-counts-requires c = search (run_told, rules)

pub open_of-open-requires : goal.open_of-open-requires
open_of-open-requires c = search (run_told, rules)

pub server_number-server-requires : goal.server_number-server-requires
server_number-server-requires c = search (run_told, rules)

pub kind_number-input-requires : goal.kind_number-input-requires
kind_number-input-requires c = search (run_told, rules)

pub returns : goal.returns
returns c = search (run_told, rules)
