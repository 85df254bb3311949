-- Made by tools/uniform from proofs.txt, not by hand: 53069a1f4ae0aabc
use Rattle.layout.specs.RowLaws.{finds}
use borrow.Author.Rules.{rules}
use Rattle.layout.proofs.rows.find.Goals as goal

pub returns-then-n-i : goal.returns-then-n-i
returns-then-n-i g c = search (finds, rules)

pub returns-then-before : goal.returns-then-before
returns-then-before g c = search (finds, rules)

pub returns-else-before : goal.returns-else-before
returns-else-before g c = search (finds, rules)
