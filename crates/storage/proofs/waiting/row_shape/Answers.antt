-- Made by tools/uniform from proofs.txt, not by hand: 746885729c176180
use Rattle.storage.specs.WaitingLaws.{shapes}
use borrow.Author.Rules.{rules}
use Rattle.storage.proofs.waiting.row_shape.Goals as goal

pub returns-in-0 : goal.returns-in-0
returns-in-0 c = search (shapes, rules)

pub returns-in-1 : goal.returns-in-1
returns-in-1 c = search (shapes, rules)

pub returns-in-2 : goal.returns-in-2
returns-in-2 c = search (shapes, rules)

pub returns-in_default : goal.returns-in_default
returns-in_default c = search (shapes, rules)
