-- Made by tools/uniform from proofs.txt, not by hand: 684f9221de9581c4
use Rattle.layout.specs.AllRows.{all_rows}
use Rattle.checks.specs.Entries.{seen_in}
use borrow.Author.Rules.{rules}
use Rattle.checks.proofs.entries.rows_ok.Goals as goal

pub returns : goal.returns
returns c = all_rows (seen_in c.args.l c.args.p).row _ _ _ _ _ c.all.ensures.ran (λ x b q k. search rules)
