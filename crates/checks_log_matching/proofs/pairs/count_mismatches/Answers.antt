-- Made by tools/uniform from proofs.txt, not by hand: 9f1a8e85e2672047
use Rattle.checks_log_matching.specs.PairLaws.{counts_all}
use borrow.Author.Rules.{rules}
use Rattle.checks_log_matching.proofs.pairs.count_mismatches.Goals as goal

pub loop-i-init : goal.loop-i-init
loop-i-init c = search (counts_all, rules)

pub loop-i-preserved : goal.loop-i-preserved
loop-i-preserved c = search (counts_all, rules)

pub returns : goal.returns
returns c = search (counts_all, rules)
