-- Made by tools/uniform from proofs.txt, not by hand: 4e676c2fd2694d25
use Rattle.bench_calls.specs.Counts.{gated_as}
use borrow.Author.Rules.{rules}
use Rattle.bench_calls.proofs.bench_check_durability.Goals as goal

pub gate_given-g-requires : goal.gate_given-g-requires
gate_given-g-requires c = search (gated_as, rules)

pub check_durability_in-requires : goal.check_durability_in-requires
check_durability_in-requires c = search (gated_as, rules)

pub returns : goal.returns
returns c = search (gated_as, rules)
