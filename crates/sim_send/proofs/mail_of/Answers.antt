-- Made by tools/uniform from proofs.txt, not by hand: a931ee194ef77624
use Rattle.sim_send.specs.Laws.{mail_dropped, mail_passed}
use borrow.Author.Rules.{rules}
use Rattle.sim_send.proofs.mail_of.Goals as goal

pub mail_within-requires : goal.mail_within-requires
mail_within-requires c = search (mail_dropped, mail_passed, rules)

pub returns-in-Dropped : goal.returns-in-Dropped
returns-in-Dropped c = search (mail_dropped, mail_passed, rules)

pub returns-in-Delivered : goal.returns-in-Delivered
returns-in-Delivered c = search (mail_dropped, mail_passed, rules)
