-- Made by tools/uniform from proofs.txt, not by hand: 2bc65fd38e62abd7
use Rattle.sim_reads_run.specs.Laws.{server_closed, server_past, server_open}
use borrow.Author.Rules.{rules}
use Rattle.sim_reads_run.proofs.server_number.Goals as goal

pub returns-then-phase-eq0 : goal.returns-then-phase-eq0
returns-then-phase-eq0 c = search (server_closed, server_past, server_open, rules)

pub returns-then-slot-gt7 : goal.returns-then-slot-gt7
returns-then-slot-gt7 c = search (server_closed, server_past, server_open, rules)

pub overflow_add-result : goal.overflow_add-result
overflow_add-result c = search (server_closed, server_past, server_open, rules)

pub returns : goal.returns
returns c = search (server_closed, server_past, server_open, rules)
