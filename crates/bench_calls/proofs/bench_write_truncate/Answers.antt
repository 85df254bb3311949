-- Made by tools/uniform from proofs.txt, not by hand: add60397b7355b39
use Rattle.bench_calls.specs.Counts.{gated_as}
use borrow.Author.Rules.{rules}
use Rattle.bench_calls.proofs.bench_write_truncate.Goals as goal

pub gate_given-g-requires : goal.gate_given-g-requires
gate_given-g-requires c = search (gated_as, rules)

pub write_truncate_in-requires : goal.write_truncate_in-requires
write_truncate_in-requires c = search (gated_as, rules)

pub returns : goal.returns
returns c = search (gated_as, rules)
