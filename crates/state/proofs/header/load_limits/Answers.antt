-- Made by tools/uniform from proofs.txt, not by hand: 517707c9d035f3cf
use Rattle.state.specs.Loads.{limits_loaded}
use borrow.Author.Rules.{rules}
use Rattle.state.proofs.header.load_limits.Goals as goal

pub load-requires : goal.load-requires
load-requires c = search (limits_loaded, rules)

pub load-requires-2 : goal.load-requires-2
load-requires-2 c = search (limits_loaded, rules)

pub load-requires-3 : goal.load-requires-3
load-requires-3 c = search (limits_loaded, rules)

pub load-requires-4 : goal.load-requires-4
load-requires-4 c = search (limits_loaded, rules)

pub load-requires-5 : goal.load-requires-5
load-requires-5 c = search (limits_loaded, rules)

pub load-requires-6 : goal.load-requires-6
load-requires-6 c = search (limits_loaded, rules)

pub returns : goal.returns
returns c = search (limits_loaded, rules)
