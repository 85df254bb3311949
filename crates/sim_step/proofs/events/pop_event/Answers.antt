-- Made by tools/uniform from proofs.txt, not by hand: 1ce3d43b80a28faf
use Rattle.state.specs.Exits.{inside_after}
use Rattle.sim_step.specs.EventLaws.{event_popped}
use borrow.Author.Rules.{rules}
use Rattle.sim_step.proofs.events.pop_event.Goals as goal

pub run_of-run-requires : goal.run_of-run-requires
run_of-run-requires c = search (inside_after, event_popped, rules)

pub sum64-count-requires : goal.sum64-count-requires
sum64-count-requires c = search (inside_after, event_popped, rules)

pub take_event-requires : goal.take_event-requires
take_event-requires c = search (inside_after, event_popped, rules)

pub set_now-requires : goal.set_now-requires
set_now-requires c = search (inside_after, event_popped, rules)

pub set_events-requires : goal.set_events-requires
set_events-requires c = search (inside_after, event_popped, rules)

pub returns : goal.returns
returns c = search (inside_after, event_popped, rules)
