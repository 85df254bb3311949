-- Made by tools/uniform from proofs.txt, not by hand: c21c8ee57cbb20f0
use Rattle.layout.specs.AllRows.{all_rows}
use Rattle.clients.specs.Confirmations.{confirmations}
use borrow.Author.Rules.{rules}
use Rattle.clients.proofs.confirmations.rows_ok.Goals as goal

pub returns : goal.returns
returns c = all_rows confirmations.row _ _ _ _ _ c.all.ensures.ran (λ x b q k. search rules)
