-- Made by tools/uniform from proofs.txt, not by hand: 78abbbb7dc5586bb
use Rattle.layout.specs.MarkedLaws.{tests}
use borrow.Author.Rules.{rules}
use Rattle.layout.proofs.marked.check_message.Goals as goal

pub returns : goal.returns
returns c = search (tests, rules)
