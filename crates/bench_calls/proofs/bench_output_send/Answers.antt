-- Made by tools/uniform from proofs.txt, not by hand: d8b2974236e1a128
use Rattle.bench_calls.specs.Counts.{gated_as}
use borrow.Author.Rules.{rules}
use Rattle.bench_calls.proofs.bench_output_send.Goals as goal

pub gate_given-g-requires : goal.gate_given-g-requires
gate_given-g-requires c = search (gated_as, rules)

pub output_send_in-requires : goal.output_send_in-requires
output_send_in-requires c = search (gated_as, rules)

pub returns : goal.returns
returns c = search (gated_as, rules)
