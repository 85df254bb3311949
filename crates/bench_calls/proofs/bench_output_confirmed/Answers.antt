-- Made by tools/uniform from proofs.txt, not by hand: 30345c27eeacc437
use Rattle.bench_calls.specs.Counts.{gated_as}
use borrow.Author.Rules.{rules}
use Rattle.bench_calls.proofs.bench_output_confirmed.Goals as goal

pub gate_given-g-requires : goal.gate_given-g-requires
gate_given-g-requires c = search (gated_as, rules)

pub output_confirmed_in-requires : goal.output_confirmed_in-requires
output_confirmed_in-requires c = search (gated_as, rules)

pub returns : goal.returns
returns c = search (gated_as, rules)
