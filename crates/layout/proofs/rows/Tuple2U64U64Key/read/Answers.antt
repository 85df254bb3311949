-- Made by tools/uniform from proofs.txt, not by hand: 6635a2dc008e92af
use Rattle.layout.specs.RowLaws.{two_read}
use borrow.Author.Rules.{rules}
use Rattle.layout.proofs.rows.Tuple2U64U64Key.read.Goals as goal

pub returns : goal.returns
returns c = search (two_read, rules)
