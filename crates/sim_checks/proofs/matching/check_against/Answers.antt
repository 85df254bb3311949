-- Made by tools/uniform from proofs.txt, not by hand: e636793896c2c4cc
use Rattle.sim_checks.specs.MatchingLaws.{against_first, against_turn, against_last}
use borrow.Author.Rules.{rules}
use Rattle.sim_checks.proofs.matching.check_against.Goals as goal

pub overflow_step-j : goal.overflow_step-j
overflow_step-j c = search (against_first, against_turn, against_last, rules)

pub loop-j-init : goal.loop-j-init
loop-j-init c = search (against_first, against_turn, against_last, rules)

pub check_pair-requires : goal.check_pair-requires
check_pair-requires c = search (against_first, against_turn, against_last, rules)

pub loop-j-smaller : goal.loop-j-smaller
loop-j-smaller c = search (against_first, against_turn, against_last, rules)

pub loop-j-preserved : goal.loop-j-preserved
loop-j-preserved c = search (against_first, against_turn, against_last, rules)

pub returns : goal.returns
returns c = search (against_first, against_turn, against_last, rules)
