-- Made by tools/uniform from proofs.txt, not by hand: ba1e00b6a507b187
use Rattle.bench_calls.specs.Counts.{gated_as}
use borrow.Author.Rules.{rules}
use Rattle.bench_calls.proofs.bench_read_violation.Goals as goal

pub gate_given-g-requires : goal.gate_given-g-requires
gate_given-g-requires c = search (gated_as, rules)

pub read_violation_in-requires : goal.read_violation_in-requires
read_violation_in-requires c = search (gated_as, rules)

pub returns : goal.returns
returns c = search (gated_as, rules)
