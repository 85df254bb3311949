-- Made by tools/uniform from proofs.txt, not by hand: 03ad8a70904f4b74
use Rattle.checks_log_matching.specs.PairLaws.{counts_after, after_turn}
use borrow.Author.Rules.{rules}
use Rattle.checks_log_matching.proofs.pairs.mismatches_after.Goals as goal

pub loop-j-init : goal.loop-j-init
loop-j-init c = search (counts_after, rules)

pub loop-j-preserved : goal.loop-j-preserved
loop-j-preserved c = after_turn _ _ _ _ _ _ _ _ _ _ _ (search rules) (search rules) c.mismatch_between.ensures c.one_of-r.ensures.0 c.one_of-r.ensures.1

pub returns : goal.returns
returns c = search (counts_after, rules)
