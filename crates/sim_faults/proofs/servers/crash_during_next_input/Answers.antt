-- Made by tools/uniform from proofs.txt, not by hand: 74fee84c09d6e8ab
use Rattle.state.specs.Exits.{inside_after}
use Rattle.sim_faults.specs.Laws.{next_stopped, next_done}
use borrow.Author.Rules.{rules}
use Rattle.sim_faults.proofs.servers.crash_during_next_input.Goals as goal

pub overflow_sub-slot : goal.overflow_sub-slot
overflow_sub-slot c = search (inside_after, next_stopped, next_done, rules)

pub runs-requires : goal.runs-requires
runs-requires c = search (inside_after, next_stopped, next_done, rules)

pub close_phase-requires : goal.close_phase-requires
close_phase-requires c = search (inside_after, next_stopped, next_done, rules)

pub returns-then-not-runs : goal.returns-then-not-runs
returns-then-not-runs c = search (inside_after, next_stopped, next_done, rules)

pub set_crashing-requires : goal.set_crashing-requires
set_crashing-requires c = search (inside_after, next_stopped, next_done, rules)

pub close_phase-requires-2 : goal.close_phase-requires-2
close_phase-requires-2 c = search (inside_after, next_stopped, next_done, rules)

pub returns : goal.returns
returns c = search (inside_after, next_stopped, next_done, rules)
