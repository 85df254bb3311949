-- Made by tools/uniform from proofs.txt, not by hand: e04418551cb9eecf
use Rattle.sim_reads_report.specs.Laws.{payload_absent, payload_present}
use borrow.Author.Rules.{rules}
use Rattle.sim_reads_report.proofs.applied_entry_yes.Goals as goal

pub applied_entry_no-requires : goal.applied_entry_no-requires
applied_entry_no-requires c = search (payload_absent, payload_present, rules)

pub applied_some-requires : goal.applied_some-requires
applied_some-requires c = search (payload_absent, payload_present, rules)

pub returns-in-None : goal.returns-in-None
returns-in-None c = search (payload_absent, payload_present, rules)

pub returns-in-Some : goal.returns-in-Some
returns-in-Some c = search (payload_absent, payload_present, rules)
