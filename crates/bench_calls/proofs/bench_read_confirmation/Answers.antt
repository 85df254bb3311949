-- Made by tools/uniform from proofs.txt, not by hand: ed625a4701aa2ce6
use Rattle.bench_calls.specs.Counts.{gated_as}
use borrow.Author.Rules.{rules}
use Rattle.bench_calls.proofs.bench_read_confirmation.Goals as goal

pub gate_given-g-requires : goal.gate_given-g-requires
gate_given-g-requires c = search (gated_as, rules)

pub read_confirmation_in-requires : goal.read_confirmation_in-requires
read_confirmation_in-requires c = search (gated_as, rules)

pub returns : goal.returns
returns c = search (gated_as, rules)
