-- Made by tools/uniform from proofs.txt, not by hand: 42f1b552a84072e6
use Rattle.checks_log_matching.specs.Laws.{searches, searching_start}
use borrow.Author.Rules.{rules}
use Rattle.checks_log_matching.proofs.log_matching_failure.Goals as goal

pub loop-i-init : goal.loop-i-init
loop-i-init c = searching_start _ _ _ _ _ _ _ c.last_index-last.ensures c.last_index.ensures c.min-shared.ensures

pub returns-then-is_some : goal.returns-then-is_some
returns-then-is_some c = search (searches, rules)

pub difference_at-difference-requires : goal.difference_at-difference-requires
difference_at-difference-requires c = search (searches, rules)

pub loop-i-preserved : goal.loop-i-preserved
loop-i-preserved c = search (searches, rules)

pub returns : goal.returns
returns c = search (searches, rules)
