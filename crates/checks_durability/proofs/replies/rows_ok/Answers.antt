-- Made by tools/uniform from proofs.txt, not by hand: ffa2e43342832492
use Rattle.layout.specs.AllRows.{all_rows}
use Rattle.checks_durability.specs.Replies.{replies}
use borrow.Author.Rules.{rules}
use Rattle.checks_durability.proofs.replies.rows_ok.Goals as goal

pub returns : goal.returns
returns c = all_rows (replies c.args.l c.args.clients).row _ _ _ _ _ c.all.ensures.ran (λ x b q k. search rules)
