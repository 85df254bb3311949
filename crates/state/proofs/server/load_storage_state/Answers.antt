-- Made by tools/uniform from proofs.txt, not by hand: 0049f4971246b5e1
use Rattle.state.specs.Loads.{storage_state_loaded}
use borrow.Author.Rules.{rules}
use Rattle.state.proofs.server.load_storage_state.Goals as goal

pub load_hard_state-requires : goal.load_hard_state-requires
load_hard_state-requires c = search (storage_state_loaded, rules)

pub load_hard_state-requires-2 : goal.load_hard_state-requires-2
load_hard_state-requires-2 c = search (storage_state_loaded, rules)

pub load-requires : goal.load-requires
load-requires c = search (storage_state_loaded, rules)

pub load-requires-2 : goal.load-requires-2
load-requires-2 c = search (storage_state_loaded, rules)

pub returns : goal.returns
returns c = search (storage_state_loaded, rules)
