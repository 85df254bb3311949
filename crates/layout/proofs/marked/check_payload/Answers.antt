-- Made by tools/uniform from proofs.txt, not by hand: f76c12c6605b0a08
use Rattle.layout.specs.MarkedLaws.{tests}
use borrow.Author.Rules.{rules}
use Rattle.layout.proofs.marked.check_payload.Goals as goal

pub returns-then-mark-lt1 : goal.returns-then-mark-lt1
returns-then-mark-lt1 c = search (tests, rules)

pub returns : goal.returns
returns c = search (tests, rules)
