-- Made by tools/uniform from proofs.txt, not by hand: d7ba3fc117f52db7
use Rattle.bench_calls.specs.Counts.{gated_as}
use borrow.Author.Rules.{rules}
use Rattle.bench_calls.proofs.bench_read_metrics.Goals as goal

pub gate_given-g-requires : goal.gate_given-g-requires
gate_given-g-requires c = search (gated_as, rules)

pub read_metrics_in-requires : goal.read_metrics_in-requires
read_metrics_in-requires c = search (gated_as, rules)

pub returns : goal.returns
returns c = search (gated_as, rules)
