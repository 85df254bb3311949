-- Made by tools/uniform from proofs.txt, not by hand: bc6f05d09dc56d04
use Rattle.bench_calls.specs.Counts.{gated_as}
use borrow.Author.Rules.{rules}
use Rattle.bench_calls.proofs.bench_step.Goals as goal

pub gate_given-g-requires : goal.gate_given-g-requires
gate_given-g-requires c = search (gated_as, rules)

pub step_in-requires : goal.step_in-requires
step_in-requires c = search (gated_as, rules)

pub returns : goal.returns
returns c = search (gated_as, rules)
