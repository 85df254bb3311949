-- Made by tools/uniform from proofs.txt, not by hand: 55b54849cfe62f82
use Rattle.bench_calls.specs.Counts.{gated_as}
use borrow.Author.Rules.{rules}
use Rattle.bench_calls.proofs.bench_propose.Goals as goal

pub gate_given-g-requires : goal.gate_given-g-requires
gate_given-g-requires c = search (gated_as, rules)

pub propose_in-requires : goal.propose_in-requires
propose_in-requires c = search (gated_as, rules)

pub returns : goal.returns
returns c = search (gated_as, rules)
