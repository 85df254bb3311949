-- Made by tools/uniform from proofs.txt, not by hand: 0cba646aa1a0de95
use Rattle.state_header.specs.Laws.{metrics_put}
use borrow.Author.Rules.{rules}
use Rattle.state_header.proofs.set_metrics.Goals as goal

pub returns : goal.returns
returns c = search (metrics_put, rules)
