-- Made by tools/uniform from proofs.txt, not by hand: 2eb0ec5994685cbf
use Rattle.sim_faults.specs.Laws.{restart_runs, restart_done}
use borrow.Author.Rules.{rules}
use Rattle.sim_faults.proofs.servers.restart.Goals as goal

pub overflow_sub-slot : goal.overflow_sub-slot
overflow_sub-slot c = search (restart_runs, restart_done, rules)

pub runs-requires : goal.runs-requires
runs-requires c = search (restart_runs, restart_done, rules)

pub close_phase-requires : goal.close_phase-requires
close_phase-requires c = search (restart_runs, restart_done, rules)

pub returns-then-runs : goal.returns-then-runs
returns-then-runs c = search (restart_runs, restart_done, rules)

pub restart_server-requires : goal.restart_server-requires
restart_server-requires c = search (restart_runs, restart_done, rules)

pub returns : goal.returns
returns c = search (restart_runs, restart_done, rules)
