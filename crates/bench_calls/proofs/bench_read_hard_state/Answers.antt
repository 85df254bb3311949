-- Made by tools/uniform from proofs.txt, not by hand: ae560c3657969041
use Rattle.bench_calls.specs.Counts.{gated_as}
use borrow.Author.Rules.{rules}
use Rattle.bench_calls.proofs.bench_read_hard_state.Goals as goal

pub gate_given-g-requires : goal.gate_given-g-requires
gate_given-g-requires c = search (gated_as, rules)

pub read_hard_state_in-requires : goal.read_hard_state_in-requires
read_hard_state_in-requires c = search (gated_as, rules)

pub returns : goal.returns
returns c = search (gated_as, rules)
