-- Made by tools/uniform from proofs.txt, not by hand: c1dade77db0d579e
use Rattle.sim_send.specs.Laws.{count_none, count_once, count_twice}
use borrow.Author.Rules.{rules}
use Rattle.sim_send.proofs.mail_count.Goals as goal

pub returns-in-Dropped : goal.returns-in-Dropped
returns-in-Dropped c = search (count_none, count_once, count_twice, rules)

pub returns-in-Once : goal.returns-in-Once
returns-in-Once c = search (count_none, count_once, count_twice, rules)

pub returns-in-Twice : goal.returns-in-Twice
returns-in-Twice c = search (count_none, count_once, count_twice, rules)
