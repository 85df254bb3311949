-- Made by tools/uniform from proofs.txt, not by hand: 5d8c3e3a79c7a1dc
use Rattle.state_asks.specs.Laws.{rows_all, rows_most}
use borrow.Author.Rules.{rules}
use Rattle.state_asks.proofs.numbers.rows_of.Goals as goal

pub returns-then-room-n : goal.returns-then-room-n
returns-then-room-n c = search (rows_all, rows_most, rules)

pub returns-else-room-n : goal.returns-else-room-n
returns-else-room-n c = search (rows_all, rows_most, rules)
