-- Made by tools/uniform from proofs.txt, not by hand: 9b742d645ed1c061
use Rattle.sim_send.specs.Acts.{count_sent}
use borrow.Author.Rules.{rules}
use Rattle.sim_send.proofs.count_send.Goals as goal

pub metrics_of-m-requires : goal.metrics_of-m-requires
metrics_of-m-requires c = search (count_sent, rules)

pub record_send-requires : goal.record_send-requires
record_send-requires c = search (count_sent, rules)

pub unwrap_or-next-requires : goal.unwrap_or-next-requires
unwrap_or-next-requires c = search (count_sent, rules)

pub set_metrics-requires : goal.set_metrics-requires
set_metrics-requires c = search (count_sent, rules)

pub returns : goal.returns
returns c = search (count_sent, rules)
