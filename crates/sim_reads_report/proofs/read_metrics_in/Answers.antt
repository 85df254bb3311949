-- Made by tools/uniform from proofs.txt, not by hand: d3d9a2e6e18979c8
use Rattle.state.specs.Exits.{inside_of, read_shut}
use Rattle.sim_reads_report.specs.Laws.{metrics_ten, metrics_read}
use borrow.Author.Rules.{rules}
use Rattle.sim_reads_report.proofs.read_metrics_in.Goals as goal

pub metrics_no-requires : goal.metrics_no-requires
metrics_no-requires c = search (inside_of, read_shut, metrics_ten, metrics_read, rules)

pub returns-then-refusal-gt0 : goal.returns-then-refusal-gt0
returns-then-refusal-gt0 c = search (inside_of, read_shut, metrics_ten, metrics_read, rules)

pub discarded_of-sum-requires : goal.discarded_of-sum-requires
discarded_of-sum-requires c = search (inside_of, read_shut, metrics_ten, metrics_read, rules)

pub metrics_no-requires-then-not-fits : goal.metrics_no-requires-then-not-fits
metrics_no-requires-then-not-fits c = search (inside_of, read_shut, metrics_ten, metrics_read, rules)

pub returns-then-not-fits : goal.returns-then-not-fits
returns-then-not-fits c = search (inside_of, read_shut, metrics_ten, metrics_read, rules)

pub run_of-run-requires : goal.run_of-run-requires
run_of-run-requires c = search (inside_of, read_shut, metrics_ten, metrics_read, rules)

pub metrics_told-requires : goal.metrics_told-requires
metrics_told-requires c = search (inside_of, read_shut, metrics_ten, metrics_read, rules)

pub returns : goal.returns
returns c = search (inside_of, read_shut, metrics_ten, metrics_read, rules)
