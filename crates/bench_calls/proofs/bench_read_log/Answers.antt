-- Made by tools/uniform from proofs.txt, not by hand: 2124c573a8f85b66
use Rattle.bench_calls.specs.Counts.{gated_as}
use borrow.Author.Rules.{rules}
use Rattle.bench_calls.proofs.bench_read_log.Goals as goal

pub gate_given-g-requires : goal.gate_given-g-requires
gate_given-g-requires c = search (gated_as, rules)

pub read_log_in-requires : goal.read_log_in-requires
read_log_in-requires c = search (gated_as, rules)

pub returns : goal.returns
returns c = search (gated_as, rules)
