-- Made by tools/uniform from proofs.txt, not by hand: 48dbae2ef5349702
use Rattle.checks_log_matching.specs.Laws.{rows_compared}
use borrow.Author.Rules.{rules}
use Rattle.checks_log_matching.proofs.same_entry.Goals as goal

pub returns : goal.returns
returns c = search (rows_compared, rules)
