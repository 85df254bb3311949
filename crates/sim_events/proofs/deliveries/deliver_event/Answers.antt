-- Made by tools/uniform from proofs.txt, not by hand: b2c6b6305c1a48a5
use Rattle.state.specs.Exits.{inside_after}
use Rattle.sim_events.specs.Laws.{deliver_lost, deliver_opened}
use borrow.Author.Rules.{rules}
use Rattle.sim_events.proofs.deliveries.deliver_event.Goals as goal

pub overflow_sub-slot : goal.overflow_sub-slot
overflow_sub-slot c = search (inside_after, deliver_lost, deliver_opened, rules)

pub status_of-status-requires : goal.status_of-status-requires
status_of-status-requires c = search (inside_after, deliver_lost, deliver_opened, rules)

pub runs-requires : goal.runs-requires
runs-requires c = search (inside_after, deliver_lost, deliver_opened, rules)

pub close_phase-requires : goal.close_phase-requires
close_phase-requires c = search (inside_after, deliver_lost, deliver_opened, rules)

pub returns-then-not-runs : goal.returns-then-not-runs
returns-then-not-runs c = search (inside_after, deliver_lost, deliver_opened, rules)

pub contends-due-requires : goal.contends-due-requires
contends-due-requires c = search (inside_after, deliver_lost, deliver_opened, rules)

pub count_delivery-requires : goal.count_delivery-requires
count_delivery-requires c = search (inside_after, deliver_lost, deliver_opened, rules)

pub open_message-requires : goal.open_message-requires
open_message-requires c = search (inside_after, deliver_lost, deliver_opened, rules)

pub message_input-requires : goal.message_input-requires
message_input-requires c = search (inside_after, deliver_lost, deliver_opened, rules)

pub returns : goal.returns
returns c = search (inside_after, deliver_lost, deliver_opened, rules)
