-- Made by tools/uniform from proofs.txt, not by hand: ca5e50d1e35a3e02
use Rattle.bench_calls.specs.Counts.{gated_as}
use borrow.Author.Rules.{rules}
use Rattle.bench_calls.proofs.bench_end.Goals as goal

pub gate_given-g-requires : goal.gate_given-g-requires
gate_given-g-requires c = search (gated_as, rules)

pub end_in-requires : goal.end_in-requires
end_in-requires c = search (gated_as, rules)

pub returns : goal.returns
returns c = search (gated_as, rules)
