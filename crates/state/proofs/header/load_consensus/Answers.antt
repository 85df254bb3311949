-- Made by tools/uniform from proofs.txt, not by hand: a0df8f724ea6aa61
use Rattle.state.specs.Loads.{consensus_loaded}
use borrow.Author.Rules.{rules}
use Rattle.state.proofs.header.load_consensus.Goals as goal

pub load-requires : goal.load-requires
load-requires c = search (consensus_loaded, rules)

pub load-requires-2 : goal.load-requires-2
load-requires-2 c = search (consensus_loaded, rules)

pub load-requires-3 : goal.load-requires-3
load-requires-3 c = search (consensus_loaded, rules)

pub load-requires-4 : goal.load-requires-4
load-requires-4 c = search (consensus_loaded, rules)

pub load-requires-5 : goal.load-requires-5
load-requires-5 c = search (consensus_loaded, rules)

pub returns : goal.returns
returns c = search (consensus_loaded, rules)
