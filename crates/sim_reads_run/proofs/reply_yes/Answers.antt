-- Made by tools/uniform from proofs.txt, not by hand: 99603989b73c41f2
use Rattle.sim_reads_run.specs.Laws.{reply_absent, reply_present}
use borrow.Author.Rules.{rules}
use Rattle.sim_reads_run.proofs.reply_yes.Goals as goal

pub reply_no-requires : goal.reply_no-requires
reply_no-requires c = search (reply_absent, reply_present, rules)

pub returns-in-None : goal.returns-in-None
returns-in-None c = search (reply_absent, reply_present, rules)

pub returns-in-Some : goal.returns-in-Some
returns-in-Some c = search (reply_absent, reply_present, rules)
