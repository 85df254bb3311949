-- Made by tools/uniform from proofs.txt, not by hand: eb351b814924120d
use Rattle.sim_apply.specs.Laws.{apply_asked}
use borrow.Author.Rules.{rules}
use Rattle.sim_apply.proofs.asked_of.Goals as goal

pub sender_of-sender-requires : goal.sender_of-sender-requires
sender_of-sender-requires c = search (apply_asked, rules)

pub is_payload-args-requires : goal.is_payload-args-requires
is_payload-args-requires c = search (apply_asked, rules)

pub asks_code-code-requires : goal.asks_code-code-requires
asks_code-code-requires c = search (apply_asked, rules)

pub returns : goal.returns
returns c = search (apply_asked, rules)
