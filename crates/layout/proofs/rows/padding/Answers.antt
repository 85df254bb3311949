-- Made by tools/uniform from proofs.txt, not by hand: d0307dc34c1f2b9d
use Rattle.layout.specs.RowLaws.{pad_ragged, pad_short, pad_rest}
use borrow.Author.Rules.{rules}
use Rattle.layout.proofs.rows.padding.Goals as goal

pub returns-then-s-ne0 : goal.returns-then-s-ne0
returns-then-s-ne0 c = search (pad_ragged, pad_short, pad_rest, rules)

pub returns-then-all-w : goal.returns-then-all-w
returns-then-all-w c = search (pad_ragged, pad_short, pad_rest, rules)

pub returns : goal.returns
returns c = search (pad_ragged, pad_short, pad_rest, rules)
