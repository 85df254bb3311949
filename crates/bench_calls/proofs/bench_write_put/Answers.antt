-- Made by tools/uniform from proofs.txt, not by hand: 316daefbc03d0060
use Rattle.bench_calls.specs.Counts.{gated_as}
use borrow.Author.Rules.{rules}
use Rattle.bench_calls.proofs.bench_write_put.Goals as goal

pub gate_given-g-requires : goal.gate_given-g-requires
gate_given-g-requires c = search (gated_as, rules)

pub write_put_in-requires : goal.write_put_in-requires
write_put_in-requires c = search (gated_as, rules)

pub returns : goal.returns
returns c = search (gated_as, rules)
