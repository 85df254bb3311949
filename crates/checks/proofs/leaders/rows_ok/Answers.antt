-- Made by tools/uniform from proofs.txt, not by hand: b3572bd6dc4ab045
use Rattle.layout.specs.AllRows.{all_rows}
use Rattle.checks.specs.Leaders.{leaders}
use borrow.Author.Rules.{rules}
use Rattle.checks.proofs.leaders.rows_ok.Goals as goal

pub returns : goal.returns
returns c = all_rows (leaders c.args.servers).row _ _ _ _ _ c.all.ensures.ran (λ x b q k. search rules)
