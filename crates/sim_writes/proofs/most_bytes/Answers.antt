-- Made by tools/uniform from proofs.txt, not by hand: 2a59fb83d87993c5
use Rattle.sim_writes.specs.Laws.{most_none, most_limit}
use borrow.Author.Rules.{rules}
use Rattle.sim_writes.proofs.most_bytes.Goals as goal

pub returns-then-kind-eq0 : goal.returns-then-kind-eq0
returns-then-kind-eq0 c = search (most_none, most_limit, rules)

pub returns-else-kind-eq0 : goal.returns-else-kind-eq0
returns-else-kind-eq0 c = search (most_none, most_limit, rules)
