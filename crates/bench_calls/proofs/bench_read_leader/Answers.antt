-- Made by tools/uniform from proofs.txt, not by hand: 415c509c46b1e919
use Rattle.bench_calls.specs.Counts.{gated_as}
use borrow.Author.Rules.{rules}
use Rattle.bench_calls.proofs.bench_read_leader.Goals as goal

pub gate_given-g-requires : goal.gate_given-g-requires
gate_given-g-requires c = search (gated_as, rules)

pub read_leader_in-requires : goal.read_leader_in-requires
read_leader_in-requires c = search (gated_as, rules)

pub returns : goal.returns
returns c = search (gated_as, rules)
