-- Made by tools/uniform from proofs.txt, not by hand: f28f71d64a4f8330
use Rattle.sim_apply.specs.ReplyLaws.{due_none, due_key}
use borrow.Author.Rules.{rules}
use Rattle.sim_apply.proofs.reply_due.Goals as goal

pub has_pending-requires : goal.has_pending-requires
has_pending-requires c = search (due_none, due_key, rules)

pub returns-in-None : goal.returns-in-None
returns-in-None c = search (due_none, due_key, rules)

pub returns-in-Some : goal.returns-in-Some
returns-in-Some c = search (due_none, due_key, rules)
