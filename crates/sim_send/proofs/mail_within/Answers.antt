-- Made by tools/uniform from proofs.txt, not by hand: bdade533c168375b
use Rattle.sim_send.specs.Laws.{mail_single, mail_double}
use borrow.Author.Rules.{rules}
use Rattle.sim_send.proofs.mail_within.Goals as goal

pub sum64-first-requires : goal.sum64-first-requires
sum64-first-requires c = search (mail_single, mail_double, rules)

pub sum64-second-requires : goal.sum64-second-requires
sum64-second-requires c = search (mail_single, mail_double, rules)

pub returns-in-None : goal.returns-in-None
returns-in-None c = search (mail_single, mail_double, rules)

pub returns-in-Some : goal.returns-in-Some
returns-in-Some c = search (mail_single, mail_double, rules)
