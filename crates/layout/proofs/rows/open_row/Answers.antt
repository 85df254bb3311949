-- Made by tools/uniform from proofs.txt, not by hand: 16e23425ff026d47
use Rattle.layout.specs.RowLaws.{open_calls}
use borrow.Author.Rules.{rules}
use Rattle.layout.proofs.rows.open_row.Goals as goal

pub returns : goal.returns
returns c = search (open_calls, rules)
