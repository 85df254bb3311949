-- Made by tools/uniform from proofs.txt, not by hand: e80eeb77e9faa611
use Rattle.bench_calls.specs.Counts.{gated_as}
use borrow.Author.Rules.{rules}
use Rattle.bench_calls.proofs.bench_schedule.Goals as goal

pub gate_given-g-requires : goal.gate_given-g-requires
gate_given-g-requires c = search (gated_as, rules)

pub schedule_in-requires : goal.schedule_in-requires
schedule_in-requires c = search (gated_as, rules)

pub returns : goal.returns
returns c = search (gated_as, rules)
