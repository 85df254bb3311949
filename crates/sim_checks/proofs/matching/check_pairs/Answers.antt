-- Made by tools/uniform from proofs.txt, not by hand: 8762a837eb763e2c
use Rattle.sim_checks.specs.MatchingLaws.{pairs_first, pairs_turn, pairs_last}
use borrow.Author.Rules.{rules}
use Rattle.sim_checks.proofs.matching.check_pairs.Goals as goal

pub loop-i-init : goal.loop-i-init
loop-i-init c = search (pairs_first, pairs_turn, pairs_last, rules)

pub check_against-requires : goal.check_against-requires
check_against-requires c = search (pairs_first, pairs_turn, pairs_last, rules)

pub loop-i-smaller : goal.loop-i-smaller
loop-i-smaller c = search (pairs_first, pairs_turn, pairs_last, rules)

pub loop-i-preserved : goal.loop-i-preserved
loop-i-preserved c = search (pairs_first, pairs_turn, pairs_last, rules)

pub returns : goal.returns
returns c = search (pairs_first, pairs_turn, pairs_last, rules)
