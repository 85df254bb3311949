-- Made by tools/uniform from proofs.txt, not by hand: 0d54ed929cee0804
use Rattle.checks_log_matching.specs.Laws.{shares}
use borrow.Author.Rules.{rules}
use Rattle.checks_log_matching.proofs.shared_term.Goals as goal

pub returns : goal.returns
returns c = search (shares, rules)
