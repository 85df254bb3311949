-- Made by tools/uniform from proofs.txt, not by hand: 146bda232ac9b68b
use Rattle.state.specs.Loads.{status_none, status_some}
use borrow.Author.Rules.{rules}
use Rattle.state.proofs.server.load_status.Goals as goal

pub load-flag-requires : goal.load-flag-requires
load-flag-requires c = search (status_none, status_some, rules)

pub load-requires : goal.load-requires
load-requires c = search (status_none, status_some, rules)

pub role_of-role-requires : goal.role_of-role-requires
role_of-role-requires c = search (status_none, status_some, rules)

pub load-requires-2 : goal.load-requires-2
load-requires-2 c = search (status_none, status_some, rules)

pub load-requires-3 : goal.load-requires-3
load-requires-3 c = search (status_none, status_some, rules)

pub load-requires-4 : goal.load-requires-4
load-requires-4 c = search (status_none, status_some, rules)

pub node_of-leader-requires : goal.node_of-leader-requires
node_of-leader-requires c = search (status_none, status_some, rules)

pub load-requires-5 : goal.load-requires-5
load-requires-5 c = search (status_none, status_some, rules)

pub returns-then-flag-eq0 : goal.returns-then-flag-eq0
returns-then-flag-eq0 c = search (status_none, status_some, rules)

pub returns : goal.returns
returns c = search (status_none, status_some, rules)
