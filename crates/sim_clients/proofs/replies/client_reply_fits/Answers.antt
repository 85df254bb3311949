-- Made by tools/uniform from proofs.txt, not by hand: 3dba4d9e489d79b5
use Rattle.sim_clients.specs.ReplyLaws.{reply_old, reply_asked}
use borrow.Author.Rules.{rules}
use Rattle.sim_clients.proofs.replies.client_reply_fits.Goals as goal

pub client_of-client-requires : goal.client_of-client-requires
client_of-client-requires c = search (reply_old, reply_asked, rules)

pub answers-requires : goal.answers-requires
answers-requires c = search (reply_old, reply_asked, rules)

pub returns-then-not-answers : goal.returns-then-not-answers
returns-then-not-answers c = search (reply_old, reply_asked, rules)

pub sum64-next-requires : goal.sum64-next-requires
sum64-next-requires c = search (reply_old, reply_asked, rules)

pub reply_count-count-requires : goal.reply_count-count-requires
reply_count-count-requires c = search (reply_old, reply_asked, rules)

pub replies_room-counts-requires : goal.replies_room-counts-requires
replies_room-counts-requires c = search (reply_old, reply_asked, rules)

pub returns : goal.returns
returns c = search (reply_old, reply_asked, rules)
