-- Made by tools/uniform from proofs.txt, not by hand: e1749009d42e0d8e
use Rattle.sim_step.specs.EventLaws.{next_inside}
use Rattle.sim_step.specs.StepLaws.{fitting_of, asked_room, next_later, next_ten, next_done}
use borrow.Author.Rules.{rules}
use Rattle.sim_step.proofs.step_next.Goals as goal

pub raise_now-requires : goal.raise_now-requires
raise_now-requires c = search (next_inside, next_later, next_ten, next_done, rules)

pub no_input-requires : goal.no_input-requires
no_input-requires c = search (next_inside, next_later, next_ten, next_done, rules)

pub stepped-requires : goal.stepped-requires
stepped-requires c = search (next_inside, next_later, next_ten, next_done, rules)

pub returns-then-deadline-time : goal.returns-then-deadline-time
returns-then-deadline-time c = search (next_inside, next_later, next_ten, next_done, rules)

pub event_fits-requires : goal.event_fits-requires
event_fits-requires c = search (next_inside, next_later, next_ten, next_done, rules)

pub stepped_no-requires : goal.stepped_no-requires
stepped_no-requires c = search (next_inside, next_later, next_ten, next_done, rules)

pub returns-then-not-event_fits : goal.returns-then-not-event_fits
returns-then-not-event_fits c = search (next_inside, next_later, next_ten, next_done, rules)

pub take_step-input-requires : goal.take_step-input-requires
take_step-input-requires c = record { fitting = fitting_of _ _ _ c.requires.next _ c.event_fits.ensures c.if-not-event_fits.false-raw; message_in_bounds = asked_room _ _ _ _ c.requires.asked }

pub stepped-requires-2 : goal.stepped-requires-2
stepped-requires-2 c = search (next_inside, next_later, next_ten, next_done, rules)

pub returns : goal.returns
returns c = search (next_inside, next_later, next_ten, next_done, rules)
