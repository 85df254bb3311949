-- Made by tools/uniform from proofs.txt, not by hand: 4018847237a721d7
use Rattle.bench_calls.specs.Counts.{gated_as}
use borrow.Author.Rules.{rules}
use Rattle.bench_calls.proofs.bench_output_set_timer.Goals as goal

pub gate_given-g-requires : goal.gate_given-g-requires
gate_given-g-requires c = search (gated_as, rules)

pub output_set_timer_in-requires : goal.output_set_timer_in-requires
output_set_timer_in-requires c = search (gated_as, rules)

pub returns : goal.returns
returns c = search (gated_as, rules)
