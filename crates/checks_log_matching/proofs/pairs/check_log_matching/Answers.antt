-- Made by tools/uniform from proofs.txt, not by hand: d8f3b7956f62fa5c
use Rattle.checks_log_matching.specs.PairLaws.{asked}
use borrow.Author.Rules.{rules}
use Rattle.checks_log_matching.proofs.pairs.check_log_matching.Goals as goal

pub returns : goal.returns
returns c = search (asked, rules)
