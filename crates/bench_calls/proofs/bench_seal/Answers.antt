-- Made by tools/uniform from proofs.txt, not by hand: 552fac307d0cbaec
use Rattle.bench_calls.specs.Counts.{gated_as}
use borrow.Author.Rules.{rules}
use Rattle.bench_calls.proofs.bench_seal.Goals as goal

pub gate_given-g-requires : goal.gate_given-g-requires
gate_given-g-requires c = search (gated_as, rules)

pub seal_in-requires : goal.seal_in-requires
seal_in-requires c = search (gated_as, rules)

pub returns : goal.returns
returns c = search (gated_as, rules)
