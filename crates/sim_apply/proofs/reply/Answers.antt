-- Made by tools/uniform from proofs.txt, not by hand: 0cba4074c9389600
use Rattle.sim_apply.specs.ReplyLaws.{reply_none, reply_not, reply_told}
use borrow.Author.Rules.{rules}
use Rattle.sim_apply.proofs.reply.Goals as goal

pub has_pending-requires : goal.has_pending-requires
has_pending-requires c = search (reply_none, reply_not, reply_told, rules)

pub overflow_cast-event : goal.overflow_cast-event
overflow_cast-event c = search (reply_none, reply_not, reply_told, rules)

pub tell_client-requires : goal.tell_client-requires
tell_client-requires c = search (reply_none, reply_not, reply_told, rules)

pub returns-in-None : goal.returns-in-None
returns-in-None c = search (reply_none, reply_not, reply_told, rules)

pub returns-then-has_pending : goal.returns-then-has_pending
returns-then-has_pending c = search (reply_none, reply_not, reply_told, rules)

pub returns-else-has_pending : goal.returns-else-has_pending
returns-else-has_pending c = search (reply_none, reply_not, reply_told, rules)
