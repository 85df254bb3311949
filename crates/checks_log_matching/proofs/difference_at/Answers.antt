-- Made by tools/uniform from proofs.txt, not by hand: 2f1c6f3a5f5d3816
use Rattle.checks_log_matching.specs.Laws.{differences}
use borrow.Author.Rules.{rules}
use Rattle.checks_log_matching.proofs.difference_at.Goals as goal

pub returns-then-is_some : goal.returns-then-is_some
returns-then-is_some c = search (differences, rules)

pub returns : goal.returns
returns c = search (differences, rules)
