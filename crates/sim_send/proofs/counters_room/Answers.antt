-- Made by tools/uniform from proofs.txt, not by hand: 3cbd161bf8abc5d5
use Rattle.sim_send.specs.Draws.{counters_read}
use borrow.Author.Rules.{rules}
use Rattle.sim_send.proofs.counters_room.Goals as goal

pub metrics_of-m-requires : goal.metrics_of-m-requires
metrics_of-m-requires c = search (counters_read, rules)

pub record_send-requires : goal.record_send-requires
record_send-requires c = search (counters_read, rules)

pub is_some-requires : goal.is_some-requires
is_some-requires c = search (counters_read, rules)

pub returns : goal.returns
returns c = search (counters_read, rules)
