-- Made by tools/uniform from proofs.txt, not by hand: 743d83227670cfce
use Rattle.layout.specs.AllRows.{all_rows}
use Rattle.clients.specs.Clients.{clients}
use borrow.Author.Rules.{rules}
use Rattle.clients.proofs.rows_ok.Goals as goal

pub returns : goal.returns
returns c = all_rows (clients c.args.servers).row _ _ _ _ _ c.all.ensures.ran (λ x b q k. search rules)
