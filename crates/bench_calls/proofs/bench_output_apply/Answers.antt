-- Made by tools/uniform from proofs.txt, not by hand: e48ba9f8de11cb9e
use Rattle.bench_calls.specs.Counts.{gated_as}
use borrow.Author.Rules.{rules}
use Rattle.bench_calls.proofs.bench_output_apply.Goals as goal

pub gate_given-g-requires : goal.gate_given-g-requires
gate_given-g-requires c = search (gated_as, rules)

pub output_apply_in-requires : goal.output_apply_in-requires
output_apply_in-requires c = search (gated_as, rules)

pub returns : goal.returns
returns c = search (gated_as, rules)
