-- Made by tools/uniform from proofs.txt, not by hand: a3726cf2f7b5ee74
use Rattle.sim_reads_report.specs.Laws.{violation_absent, violation_present, violation_each}
use borrow.Author.Rules.{rules}
use Rattle.sim_reads_report.proofs.violation_yes.Goals as goal

pub violation_no-requires : goal.violation_no-requires
violation_no-requires c = search (violation_absent, violation_present, violation_each, rules)

pub returns-in-None : goal.returns-in-None
returns-in-None c = search (violation_absent, violation_present, violation_each, rules)

pub returns-in-Some : goal.returns-in-Some
returns-in-Some c = search (violation_absent, violation_present, violation_each, rules)
