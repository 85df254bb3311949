-- Made by tools/uniform from proofs.txt, not by hand: 0e253b0dd04b5afa
use Rattle.bench_calls.specs.Counts.{gated_as}
use borrow.Author.Rules.{rules}
use Rattle.bench_calls.proofs.bench_read_applied_entry.Goals as goal

pub gate_given-g-requires : goal.gate_given-g-requires
gate_given-g-requires c = search (gated_as, rules)

pub read_applied_entry_in-requires : goal.read_applied_entry_in-requires
read_applied_entry_in-requires c = search (gated_as, rules)

pub returns : goal.returns
returns c = search (gated_as, rules)
