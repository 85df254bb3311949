-- Made by tools/uniform from proofs.txt, not by hand: 190e086d1d75bdab
use Rattle.layout.specs.RowLaws.{remove_calls}
use borrow.Author.Rules.{rules}
use Rattle.layout.proofs.rows.remove_row.Goals as goal

pub returns : goal.returns
returns c = search (remove_calls, rules)
