-- Made by tools/uniform from proofs.txt, not by hand: ec310b633a610b1f
use Rattle.layout.specs.SortedTables.{found}
use Rattle.layout.specs.KeyLaws.{key}
use borrow.Author.Rules.{rules}
use Rattle.layout.proofs.keys.insert.Goals as goal

pub returns-then-room-n : goal.returns-then-room-n
returns-then-room-n c = search (key, found, rules)

pub start-at-requires : goal.start-at-requires
start-at-requires c = search (key, found, rules)

pub returns-in-Ok : goal.returns-in-Ok
returns-in-Ok c = search (key, found, rules)

pub returns-else-room-n : goal.returns-else-room-n
returns-else-room-n c = search (key, found, rules)
