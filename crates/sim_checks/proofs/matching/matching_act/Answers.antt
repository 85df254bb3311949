-- Made by tools/uniform from proofs.txt, not by hand: 6fd5eea7be4ce8ae
use Rattle.sim_checks.specs.MatchingLaws.{matching_acts}
use borrow.Author.Rules.{rules}
use Rattle.sim_checks.proofs.matching.matching_act.Goals as goal

pub run_of-run-requires : goal.run_of-run-requires
run_of-run-requires c = search (matching_acts, rules)

pub check_pairs-requires : goal.check_pairs-requires
check_pairs-requires c = search (matching_acts, rules)

pub returns : goal.returns
returns c = search (matching_acts, rules)
