-- Made by tools/uniform from proofs.txt, not by hand: 8cfde3b459778f61
use Rattle.sim_clients.specs.ReplyLaws.{taken_none, taken_other, taken_done}
use borrow.Author.Rules.{rules}
use Rattle.sim_clients.proofs.replies.client_reply.Goals as goal

pub client_of-client-requires : goal.client_of-client-requires
client_of-client-requires c = search (taken_none, taken_other, taken_done, rules)

pub take_reply-requires : goal.take_reply-requires
take_reply-requires c = search (taken_none, taken_other, taken_done, rules)

pub returns-in-None : goal.returns-in-None
returns-in-None c = search (taken_none, taken_other, taken_done, rules)

pub returns-then-sent-seq : goal.returns-then-sent-seq
returns-then-sent-seq c = search (taken_none, taken_other, taken_done, rules)

pub returns-else-sent-seq : goal.returns-else-sent-seq
returns-else-sent-seq c = search (taken_none, taken_other, taken_done, rules)
