-- Made by tools/uniform from proofs.txt, not by hand: e46ca266334aede0
use Rattle.state.specs.Loads.{node_none, node_some}
use borrow.Author.Rules.{rules}
use Rattle.state.proofs.server.node_of.Goals as goal

pub returns-then-flag-eq0 : goal.returns-then-flag-eq0
returns-then-flag-eq0 c = search (node_none, node_some, rules)

pub returns-else-flag-eq0 : goal.returns-else-flag-eq0
returns-else-flag-eq0 c = search (node_none, node_some, rules)
