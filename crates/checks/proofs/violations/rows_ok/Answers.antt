-- Made by tools/uniform from proofs.txt, not by hand: d4634b69d5d2cce1
use Rattle.layout.specs.AllRows.{all_rows}
use Rattle.checks.specs.Violations.{violation_row}
use borrow.Author.Rules.{rules}
use Rattle.checks.proofs.violations.rows_ok.Goals as goal

pub returns : goal.returns
returns c = all_rows violation_row _ _ _ _ _ c.all.ensures.ran (λ x b q k. search rules)
