-- Made by tools/uniform from proofs.txt, not by hand: 617be394f1627922
use Rattle.sim_reads_report.specs.Laws.{kind_noop, kind_command}
use borrow.Author.Rules.{rules}
use Rattle.sim_reads_report.proofs.applied_some.Goals as goal

pub returns-in-Noop : goal.returns-in-Noop
returns-in-Noop c = search (kind_noop, kind_command, rules)

pub returns-in-Command : goal.returns-in-Command
returns-in-Command c = search (kind_noop, kind_command, rules)
