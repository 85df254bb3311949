-- Made by tools/uniform from proofs.txt, not by hand: 41f15009e30cc444
use Rattle.checks_log_matching.specs.PairLaws.{keeps, mismatch_kept}
use borrow.Author.Rules.{rules}
use Rattle.checks_log_matching.proofs.pairs.keep_mismatch.Goals as goal

pub returns-in-None : goal.returns-in-None
returns-in-None c = search (keeps, rules)

pub returns-in-Some : goal.returns-in-Some
returns-in-Some c = mismatch_kept _ _ _ _ _ _ _ _ _ c.in-Some.is c.keep.ensures
