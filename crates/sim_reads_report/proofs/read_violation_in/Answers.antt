-- Made by tools/uniform from proofs.txt, not by hand: 65c7207d619ab8bf
use Rattle.state.specs.Exits.{inside_of, read_shut}
use Rattle.sim_reads_report.specs.Laws.{violation_read}
use borrow.Author.Rules.{rules}
use Rattle.sim_reads_report.proofs.read_violation_in.Goals as goal

pub violation_no-requires : goal.violation_no-requires
violation_no-requires c = search (inside_of, read_shut, violation_read, rules)

pub returns-then-refusal-gt0 : goal.returns-then-refusal-gt0
returns-then-refusal-gt0 c = search (inside_of, read_shut, violation_read, rules)

pub violation_of-violation-requires : goal.violation_of-violation-requires
violation_of-violation-requires c = search (inside_of, read_shut, violation_read, rules)

pub violation_yes-requires : goal.violation_yes-requires
violation_yes-requires c = search (inside_of, read_shut, violation_read, rules)

pub returns : goal.returns
returns c = search (inside_of, read_shut, violation_read, rules)
