-- Made by tools/uniform from proofs.txt, not by hand: cc9299804259b30a
use Rattle.state_header.specs.Laws.{delay_read}
use borrow.Author.Rules.{rules}
use Rattle.state_header.proofs.delay_of.Goals as goal

pub returns : goal.returns
returns c = search (delay_read, rules)
