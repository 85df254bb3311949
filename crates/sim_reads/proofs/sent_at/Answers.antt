-- Made by tools/uniform from proofs.txt, not by hand: b9bad3d227004912
use Rattle.sim_reads.specs.Laws.{sent_read}
use borrow.Author.Rules.{rules}
use Rattle.sim_reads.proofs.sent_at.Goals as goal

pub metrics_of-m-requires : goal.metrics_of-m-requires
metrics_of-m-requires c = search (sent_read, rules)

pub overflow_add-k : goal.overflow_add-k
overflow_add-k c = search (sent_read, rules)

pub sent_by-requires : goal.sent_by-requires
sent_by-requires c = search (sent_read, rules)

pub returns : goal.returns
returns c = search (sent_read, rules)
