-- Made by tools/uniform from proofs.txt, not by hand: 2328e330d5b81b9a
use Rattle.layout.specs.MarkedLaws.{rest}
use borrow.Author.Rules.{rules}
use Rattle.layout.proofs.marked.rest_ok.Goals as goal

pub returns-then-p-n : goal.returns-then-p-n
returns-then-p-n c = search (rest, rules)

pub returns : goal.returns
returns c = search (rest, rules)
