-- Made by tools/uniform from proofs.txt, not by hand: b04b86c5bda65213
use Rattle.bench_calls.specs.Counts.{gated_as}
use borrow.Author.Rules.{rules}
use Rattle.bench_calls.proofs.bench_check_log_matching.Goals as goal

pub gate_given-g-requires : goal.gate_given-g-requires
gate_given-g-requires c = search (gated_as, rules)

pub check_log_matching_in-requires : goal.check_log_matching_in-requires
check_log_matching_in-requires c = search (gated_as, rules)

pub returns : goal.returns
returns c = search (gated_as, rules)
