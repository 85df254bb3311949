-- Made by tools/uniform from proofs.txt, not by hand: 91a625804014b7b3
use Rattle.state_checks.specs.ActLaws.{mismatches, mismatch_reported_lem}
use borrow.Author.Rules.{rules}
use Rattle.state_checks.proofs.acts.matching_act.Goals as goal

pub keep-requires : goal.keep-requires
keep-requires c = search (mismatches, rules)

pub returns-in-None : goal.returns-in-None
returns-in-None c = search (mismatches, rules)

pub returns-in-Some : goal.returns-in-Some
returns-in-Some c = mismatch_reported_lem _ _ _ _ _ _ _ _ _ _ (search rules) c.keep.ensures
