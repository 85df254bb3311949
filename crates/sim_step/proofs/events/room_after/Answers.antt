-- Made by tools/uniform from proofs.txt, not by hand: 3259e868e12305d4
use Rattle.sim_step.specs.EventLaws.{room_full, room_left}
use borrow.Author.Rules.{rules}
use Rattle.sim_step.proofs.events.room_after.Goals as goal

pub queue_count-n-requires : goal.queue_count-n-requires
queue_count-n-requires c = search (room_full, room_left, rules)

pub returns-then-limits-n : goal.returns-then-limits-n
returns-then-limits-n c = search (room_full, room_left, rules)

pub overflow_add-result : goal.overflow_add-result
overflow_add-result c = search (room_full, room_left, rules)

pub returns : goal.returns
returns c = search (room_full, room_left, rules)
