-- Made by tools/uniform from proofs.txt, not by hand: 2ff4bd65d66254b7
use Rattle.sim_checks.specs.MatchingLaws.{matching_open, matching_planned}
use borrow.Author.Rules.{rules}
use Rattle.sim_checks.proofs.matching.matching_plan.Goals as goal

pub is_closed-closed-requires : goal.is_closed-closed-requires
is_closed-closed-requires c = search (matching_open, matching_planned, rules)

pub returns-then-not-closed : goal.returns-then-not-closed
returns-then-not-closed c = search (matching_open, matching_planned, rules)

pub matching_asked-requires : goal.matching_asked-requires
matching_asked-requires c = search (matching_open, matching_planned, rules)

pub answer_number-requires : goal.answer_number-requires
answer_number-requires c = search (matching_open, matching_planned, rules)

pub returns : goal.returns
returns c = search (matching_open, matching_planned, rules)
