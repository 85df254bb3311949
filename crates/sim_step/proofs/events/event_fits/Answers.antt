-- Made by tools/uniform from proofs.txt, not by hand: 269c86e06c4e0d4e
use Rattle.sim_step.specs.EventLaws.{next_inside, next_passed, next_event_lem, event_asked}
use borrow.Author.Rules.{rules}
use Rattle.sim_step.proofs.events.event_fits.Goals as goal

pub run_of-run-requires : goal.run_of-run-requires
run_of-run-requires c = search (next_inside, next_passed, next_event_lem, event_asked, rules)

pub sum64-count-requires : goal.sum64-count-requires
sum64-count-requires c = search (next_inside, next_passed, next_event_lem, event_asked, rules)

pub room_after-room-requires : goal.room_after-room-requires
room_after-room-requires c = search (next_inside, next_passed, next_event_lem, event_asked, rules)

pub process_fits-fits-requires : goal.process_fits-fits-requires
process_fits-fits-requires c = search (next_inside, next_passed, next_event_lem, event_asked, rules)

pub returns : goal.returns
returns c = search (next_inside, next_passed, next_event_lem, event_asked, rules)
