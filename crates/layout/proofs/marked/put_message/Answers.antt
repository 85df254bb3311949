-- Made by tools/uniform from proofs.txt, not by hand: 36c51f3f808b7b1c
use Rattle.layout.specs.MarkedLaws.{puts}
use borrow.Author.Rules.{rules}
use Rattle.layout.proofs.marked.put_message.Goals as goal

pub returns : goal.returns
returns c = search (puts, rules)
