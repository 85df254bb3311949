-- Made by tools/uniform from proofs.txt, not by hand: 83e34cc0be181f35
use Rattle.bench_calls.specs.Counts.{gated_as}
use borrow.Author.Rules.{rules}
use Rattle.bench_calls.proofs.bench_confirm_leadership.Goals as goal

pub gate_given-g-requires : goal.gate_given-g-requires
gate_given-g-requires c = search (gated_as, rules)

pub confirm_leadership_in-requires : goal.confirm_leadership_in-requires
confirm_leadership_in-requires c = search (gated_as, rules)

pub returns : goal.returns
returns c = search (gated_as, rules)
