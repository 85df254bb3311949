-- Made by tools/uniform from proofs.txt, not by hand: be75f554397b46f4
use Rattle.checks_log_matching.specs.PairLaws.{pair_compared}
use borrow.Author.Rules.{rules}
use Rattle.checks_log_matching.proofs.pairs.mismatch_between.Goals as goal

pub returns : goal.returns
returns c = search (pair_compared, rules)
