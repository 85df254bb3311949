-- Made by tools/uniform from proofs.txt, not by hand: 488f6e7b983cdf2f
use Rattle.state_header.specs.Laws.{metrics_read}
use borrow.Author.Rules.{rules}
use Rattle.state_header.proofs.metrics_of.Goals as goal

pub returns : goal.returns
returns c = search (metrics_read, rules)
