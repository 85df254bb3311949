-- Made by tools/uniform from proofs.txt, not by hand: 5816554f28186a94
use Rattle.layout.specs.RowLaws.{one_read}
use borrow.Author.Rules.{rules}
use Rattle.layout.proofs.rows.U64Key.read.Goals as goal

pub returns : goal.returns
returns c = search (one_read, rules)
