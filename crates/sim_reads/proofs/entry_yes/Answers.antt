-- Made by tools/uniform from proofs.txt, not by hand: 3ef2d9e241678446
use Rattle.sim_reads.specs.EntryLaws.{entry_absent, entry_noop, entry_command}
use borrow.Author.Rules.{rules}
use Rattle.sim_reads.proofs.entry_yes.Goals as goal

pub entry_no-requires : goal.entry_no-requires
entry_no-requires c = search (entry_absent, entry_noop, entry_command, rules)

pub returns-in_default : goal.returns-in_default
returns-in_default c = search (entry_absent, entry_noop, entry_command, rules)

pub returns-in-Noop : goal.returns-in-Noop
returns-in-Noop c = search (entry_absent, entry_noop, entry_command, rules)

pub returns-in-Command : goal.returns-in-Command
returns-in-Command c = search (entry_absent, entry_noop, entry_command, rules)
