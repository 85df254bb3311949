-- Made by tools/uniform from proofs.txt, not by hand: 579efc675458d009
use Rattle.sim_clients.specs.ReplyLaws.{reply_counted_lem}
use borrow.Author.Rules.{rules}
use Rattle.sim_clients.proofs.replies.count_reply.Goals as goal

pub metrics_of-m-requires : goal.metrics_of-m-requires
metrics_of-m-requires c = search (reply_counted_lem, rules)

pub record_reply-requires : goal.record_reply-requires
record_reply-requires c = search (reply_counted_lem, rules)

pub unwrap_or-next-requires : goal.unwrap_or-next-requires
unwrap_or-next-requires c = search (reply_counted_lem, rules)

pub set_metrics-requires : goal.set_metrics-requires
set_metrics-requires c = search (reply_counted_lem, rules)

pub returns : goal.returns
returns c = search (reply_counted_lem, rules)
