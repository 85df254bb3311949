-- Made by tools/uniform from proofs.txt, not by hand: a84a77ae44bc9954
use Rattle.state.specs.Exits.{inside_after}
use Rattle.sim_send.specs.Acts.{mail_none, mail_once, mail_twice}
use borrow.Author.Rules.{rules}
use Rattle.sim_send.proofs.push_mail.Goals as goal

pub push_event-requires : goal.push_event-requires
push_event-requires c = search (inside_after, mail_none, mail_once, mail_twice, rules)

pub push_event-requires-in-Twice : goal.push_event-requires-in-Twice
push_event-requires-in-Twice c = search (inside_after, mail_none, mail_once, mail_twice, rules)

pub push_event-requires-in-Twice-2 : goal.push_event-requires-in-Twice-2
push_event-requires-in-Twice-2 c = search (inside_after, mail_none, mail_once, mail_twice, rules)

pub returns-in-Dropped : goal.returns-in-Dropped
returns-in-Dropped c = search (inside_after, mail_none, mail_once, mail_twice, rules)

pub returns-in-Once : goal.returns-in-Once
returns-in-Once c = search (inside_after, mail_none, mail_once, mail_twice, rules)

pub returns-in-Twice : goal.returns-in-Twice
returns-in-Twice c = search (inside_after, mail_none, mail_once, mail_twice, rules)
