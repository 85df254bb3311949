-- Made by tools/uniform from proofs.txt, not by hand: e9cecd50f63362aa
use Rattle.state.specs.Exits.{inside_of, read_shut}
use Rattle.sim_reads_run.specs.Laws.{reply_read}
use borrow.Author.Rules.{rules}
use Rattle.sim_reads_run.proofs.read_reply_in.Goals as goal

pub reply_no-requires : goal.reply_no-requires
reply_no-requires c = search (inside_of, read_shut, reply_read, rules)

pub returns-then-refusal-gt0 : goal.returns-then-refusal-gt0
returns-then-refusal-gt0 c = search (inside_of, read_shut, reply_read, rules)

pub reply_of-reply-requires : goal.reply_of-reply-requires
reply_of-reply-requires c = search (inside_of, read_shut, reply_read, rules)

pub reply_yes-requires : goal.reply_yes-requires
reply_yes-requires c = search (inside_of, read_shut, reply_read, rules)

pub returns : goal.returns
returns c = search (inside_of, read_shut, reply_read, rules)
