-- Made by tools/uniform from proofs.txt, not by hand: ec0e814f5f6e4547
use Rattle.sim_events.specs.Laws.{deliver_plain, deliver_asked}
use borrow.Author.Rules.{rules}
use Rattle.sim_events.proofs.deliveries.deliver_fits.Goals as goal

pub overflow_sub-to : goal.overflow_sub-to
overflow_sub-to c = search (deliver_plain, deliver_asked, rules)

pub status_of-status-requires : goal.status_of-status-requires
status_of-status-requires c = search (deliver_plain, deliver_asked, rules)

pub contends-requires : goal.contends-requires
contends-requires c = search (deliver_plain, deliver_asked, rules)

pub returns-then-not-contends : goal.returns-then-not-contends
returns-then-not-contends c = search (deliver_plain, deliver_asked, rules)

pub delivery_room-requires : goal.delivery_room-requires
delivery_room-requires c = search (deliver_plain, deliver_asked, rules)

pub returns : goal.returns
returns c = search (deliver_plain, deliver_asked, rules)
