-- Made by tools/uniform from proofs.txt, not by hand: 09ba6940cc7f9452
use Rattle.bench_calls.specs.Counts.{gated_as}
use borrow.Author.Rules.{rules}
use Rattle.bench_calls.proofs.bench_read_sent_by.Goals as goal

pub gate_given-g-requires : goal.gate_given-g-requires
gate_given-g-requires c = search (gated_as, rules)

pub read_sent_by_in-requires : goal.read_sent_by_in-requires
read_sent_by_in-requires c = search (gated_as, rules)

pub returns : goal.returns
returns c = search (gated_as, rules)
