-- Made by tools/uniform from proofs.txt, not by hand: c91528dd51cf895a
use Rattle.bench_calls.specs.Counts.{gated_as}
use borrow.Author.Rules.{rules}
use Rattle.bench_calls.proofs.bench_fire_timer.Goals as goal

pub gate_given-g-requires : goal.gate_given-g-requires
gate_given-g-requires c = search (gated_as, rules)

pub fire_timer_in-requires : goal.fire_timer_in-requires
fire_timer_in-requires c = search (gated_as, rules)

pub returns : goal.returns
returns c = search (gated_as, rules)
