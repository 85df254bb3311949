-- Made by tools/uniform from proofs.txt, not by hand: 6b363b35496fda26
use Rattle.sim_events.specs.Laws.{uncounted, delivery_counted_lem}
use borrow.Author.Rules.{rules}
use Rattle.sim_events.proofs.deliveries.count_delivery.Goals as goal

pub returns-then-not-due : goal.returns-then-not-due
returns-then-not-due c = search (uncounted, delivery_counted_lem, rules)

pub metrics_of-m-requires : goal.metrics_of-m-requires
metrics_of-m-requires c = search (uncounted, delivery_counted_lem, rules)

pub deliver_to_leader-requires : goal.deliver_to_leader-requires
deliver_to_leader-requires c = search (uncounted, delivery_counted_lem, rules)

pub unwrap_or-next-requires : goal.unwrap_or-next-requires
unwrap_or-next-requires c = search (uncounted, delivery_counted_lem, rules)

pub set_metrics-requires : goal.set_metrics-requires
set_metrics-requires c = search (uncounted, delivery_counted_lem, rules)

pub returns : goal.returns
returns c = search (uncounted, delivery_counted_lem, rules)
