-- Made by tools/uniform from proofs.txt, not by hand: 3bb0d5ff396460cf
use Rattle.state_header.specs.Laws.{open_read}
use borrow.Author.Rules.{rules}
use Rattle.state_header.proofs.open_of.Goals as goal

pub returns : goal.returns
returns c = search (open_read, rules)
