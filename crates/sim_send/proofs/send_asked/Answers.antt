-- Made by tools/uniform from proofs.txt, not by hand: 8b6788951b2c3459
use Rattle.sim_send.specs.Laws.{from_fits, send_asked}
use borrow.Author.Rules.{rules}
use Rattle.sim_send.proofs.send_asked.Goals as goal

pub sender_of-sender-requires : goal.sender_of-sender-requires
sender_of-sender-requires c = search (from_fits, send_asked, rules)

pub asks_code-code-requires : goal.asks_code-code-requires
asks_code-code-requires c = search (from_fits, send_asked, rules)

pub overflow_add-result : goal.overflow_add-result
overflow_add-result c = search (from_fits, send_asked, rules)

pub returns : goal.returns
returns c = search (from_fits, send_asked, rules)
