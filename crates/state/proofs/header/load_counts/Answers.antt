-- Made by tools/uniform from proofs.txt, not by hand: 547e552a8e57bc4f
use Rattle.state.specs.Loads.{counts_loaded}
use borrow.Author.Rules.{rules}
use Rattle.state.proofs.header.load_counts.Goals as goal

pub load-requires : goal.load-requires
load-requires c = search (counts_loaded, rules)

pub load-requires-2 : goal.load-requires-2
load-requires-2 c = search (counts_loaded, rules)

pub load-requires-3 : goal.load-requires-3
load-requires-3 c = search (counts_loaded, rules)

pub load-requires-4 : goal.load-requires-4
load-requires-4 c = search (counts_loaded, rules)

pub load-requires-5 : goal.load-requires-5
load-requires-5 c = search (counts_loaded, rules)

pub load-requires-6 : goal.load-requires-6
load-requires-6 c = search (counts_loaded, rules)

pub load-requires-7 : goal.load-requires-7
load-requires-7 c = search (counts_loaded, rules)

pub load-requires-8 : goal.load-requires-8
load-requires-8 c = search (counts_loaded, rules)

pub returns : goal.returns
returns c = search (counts_loaded, rules)
