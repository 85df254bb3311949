-- Made by tools/uniform from proofs.txt, not by hand: 78978c20ffad86b7
use Rattle.state_header.specs.Laws.{max_log_gaps_put}
use borrow.Author.Rules.{rules}
use Rattle.state_header.proofs.set_max_log_gaps.Goals as goal

pub returns : goal.returns
returns c = search (max_log_gaps_put, rules)
