-- Made by tools/uniform from proofs.txt, not by hand: d7e2e38052efdecf
use Rattle.sim_events.specs.Laws.{delivery_read}
use borrow.Author.Rules.{rules}
use Rattle.sim_events.proofs.deliveries.delivery_room.Goals as goal

pub metrics_of-m-requires : goal.metrics_of-m-requires
metrics_of-m-requires c = search (delivery_read, rules)

pub deliver_to_leader-requires : goal.deliver_to_leader-requires
deliver_to_leader-requires c = search (delivery_read, rules)

pub is_some-requires : goal.is_some-requires
is_some-requires c = search (delivery_read, rules)

pub returns : goal.returns
returns c = search (delivery_read, rules)
