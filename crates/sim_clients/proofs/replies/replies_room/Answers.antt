-- Made by tools/uniform from proofs.txt, not by hand: ee8280d7d9340f48
use Rattle.sim_clients.specs.ReplyLaws.{replies_read}
use borrow.Author.Rules.{rules}
use Rattle.sim_clients.proofs.replies.replies_room.Goals as goal

pub metrics_of-m-requires : goal.metrics_of-m-requires
metrics_of-m-requires c = search (replies_read, rules)

pub record_reply-requires : goal.record_reply-requires
record_reply-requires c = search (replies_read, rules)

pub is_some-requires : goal.is_some-requires
is_some-requires c = search (replies_read, rules)

pub returns : goal.returns
returns c = search (replies_read, rules)
