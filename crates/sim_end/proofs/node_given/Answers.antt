-- Made by tools/uniform from proofs.txt, not by hand: 0498f2b8106f247d
use Rattle.sim_end.specs.Laws.{node_some, node_none}
use borrow.Author.Rules.{rules}
use Rattle.sim_end.proofs.node_given.Goals as goal

pub returns-then-present-eq1 : goal.returns-then-present-eq1
returns-then-present-eq1 c = search (node_some, node_none, rules)

pub returns-else-present-eq1 : goal.returns-else-present-eq1
returns-else-present-eq1 c = search (node_some, node_none, rules)
