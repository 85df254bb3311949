-- Made by tools/uniform from proofs.txt, not by hand: 52f4090e58de129f
use Rattle.bench_calls.specs.Counts.{gated_as}
use borrow.Author.Rules.{rules}
use Rattle.bench_calls.proofs.bench_write_hard_state.Goals as goal

pub gate_given-g-requires : goal.gate_given-g-requires
gate_given-g-requires c = search (gated_as, rules)

pub write_hard_state_in-requires : goal.write_hard_state_in-requires
write_hard_state_in-requires c = search (gated_as, rules)

pub returns : goal.returns
returns c = search (gated_as, rules)
