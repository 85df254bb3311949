-- Made by tools/uniform from proofs.txt, not by hand: 7b956422ba3f917a
use Rattle.sim_checks.specs.MatchingLaws.{pair_checked_lem}
use borrow.Author.Rules.{rules}
use Rattle.sim_checks.proofs.matching.check_pair.Goals as goal

pub mismatch_of-found-requires : goal.mismatch_of-found-requires
mismatch_of-found-requires c = search (pair_checked_lem, rules)

pub overflow_add-a : goal.overflow_add-a
overflow_add-a c = search (pair_checked_lem, rules)

pub overflow_add-b : goal.overflow_add-b
overflow_add-b c = search (pair_checked_lem, rules)

pub matching_act-requires : goal.matching_act-requires
matching_act-requires c = search (pair_checked_lem, rules)

pub returns : goal.returns
returns c = search (pair_checked_lem, rules)
