-- Made by tools/uniform from proofs.txt, not by hand: 9ecc4098da0e90b5
use Rattle.storage.specs.WaitingLaws.{plains}
use borrow.Author.Rules.{rules}
use Rattle.storage.proofs.waiting.plain.Goals as goal

pub returns-in-0 : goal.returns-in-0
returns-in-0 c = search (plains, rules)

pub returns-in_default : goal.returns-in_default
returns-in_default c = search (plains, rules)
