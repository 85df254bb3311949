-- Made by tools/uniform from proofs.txt, not by hand: 4e697145c4754ba1
use Rattle.storage.specs.ReplayLaws.{puts}
use borrow.Author.Rules.{rules}
use Rattle.storage.proofs.replay.put.Goals as goal

pub returns-then-i-lt1 : goal.returns-then-i-lt1
returns-then-i-lt1 c = search (puts, rules)

pub returns-then-places-i : goal.returns-then-places-i
returns-then-places-i c = search (puts, rules)

pub returns : goal.returns
returns c = search (puts, rules)
