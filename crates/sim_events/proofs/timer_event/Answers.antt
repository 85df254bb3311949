-- Made by tools/uniform from proofs.txt, not by hand: 82936067ed11c6e4
use Rattle.sim_events.specs.Laws.{timer_fires, timer_old}
use borrow.Author.Rules.{rules}
use Rattle.sim_events.proofs.timer_event.Goals as goal

pub server_of-x-requires : goal.server_of-x-requires
server_of-x-requires c = search (timer_fires, timer_old, rules)

pub fires-requires : goal.fires-requires
fires-requires c = search (timer_fires, timer_old, rules)

pub open_timer-requires : goal.open_timer-requires
open_timer-requires c = search (timer_fires, timer_old, rules)

pub overflow_add-slot : goal.overflow_add-slot
overflow_add-slot c = search (timer_fires, timer_old, rules)

pub timer_input-requires : goal.timer_input-requires
timer_input-requires c = search (timer_fires, timer_old, rules)

pub returns-then-fires : goal.returns-then-fires
returns-then-fires c = search (timer_fires, timer_old, rules)

pub close_phase-requires : goal.close_phase-requires
close_phase-requires c = search (timer_fires, timer_old, rules)

pub returns : goal.returns
returns c = search (timer_fires, timer_old, rules)
