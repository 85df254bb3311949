-- Made by tools/uniform from proofs.txt, not by hand: 0c7a72bf5cf6a501
use Rattle.state.specs.Loads.{capacity_loaded}
use borrow.Author.Rules.{rules}
use Rattle.state.proofs.header.load_capacity.Goals as goal

pub load-requires : goal.load-requires
load-requires c = search (capacity_loaded, rules)

pub load-requires-2 : goal.load-requires-2
load-requires-2 c = search (capacity_loaded, rules)

pub load_limits-requires : goal.load_limits-requires
load_limits-requires c = search (capacity_loaded, rules)

pub returns : goal.returns
returns c = search (capacity_loaded, rules)
