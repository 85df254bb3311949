-- Made by tools/uniform from proofs.txt, not by hand: 19151596f3c958a9
use Rattle.storage.specs.WaitingLaws.{withins}
use borrow.Author.Rules.{rules}
use Rattle.storage.proofs.waiting.within.Goals as goal

pub returns-then-mark-lt3 : goal.returns-then-mark-lt3
returns-then-mark-lt3 c = search (withins, rules)

pub returns-then-a-ge1 : goal.returns-then-a-ge1
returns-then-a-ge1 c = search (withins, rules)

pub returns-else-a-ge1 : goal.returns-else-a-ge1
returns-else-a-ge1 c = search (withins, rules)
