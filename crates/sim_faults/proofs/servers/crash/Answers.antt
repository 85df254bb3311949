-- Made by tools/uniform from proofs.txt, not by hand: b54255200f959a74
use Rattle.state.specs.Exits.{inside_after}
use Rattle.sim_faults.specs.Laws.{crash_stopped, crash_done}
use borrow.Author.Rules.{rules}
use Rattle.sim_faults.proofs.servers.crash.Goals as goal

pub overflow_sub-slot : goal.overflow_sub-slot
overflow_sub-slot c = search (inside_after, crash_stopped, crash_done, rules)

pub runs-requires : goal.runs-requires
runs-requires c = search (inside_after, crash_stopped, crash_done, rules)

pub close_phase-requires : goal.close_phase-requires
close_phase-requires c = search (inside_after, crash_stopped, crash_done, rules)

pub returns-then-not-runs : goal.returns-then-not-runs
returns-then-not-runs c = search (inside_after, crash_stopped, crash_done, rules)

pub stop_server-requires : goal.stop_server-requires
stop_server-requires c = search (inside_after, crash_stopped, crash_done, rules)

pub close_phase-requires-2 : goal.close_phase-requires-2
close_phase-requires-2 c = search (inside_after, crash_stopped, crash_done, rules)

pub returns : goal.returns
returns c = search (inside_after, crash_stopped, crash_done, rules)
