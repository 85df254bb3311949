-- Made by tools/uniform from proofs.txt, not by hand: 8a1b2499059e9c63
use Rattle.state.specs.Loads.{storage_state_stored}
use borrow.Author.Rules.{rules}
use Rattle.state.proofs.server.store_storage_state.Goals as goal

pub node_flag-requires : goal.node_flag-requires
node_flag-requires c = search (storage_state_stored, rules)

pub node_number-requires : goal.node_number-requires
node_number-requires c = search (storage_state_stored, rules)

pub node_flag-requires-2 : goal.node_flag-requires-2
node_flag-requires-2 c = search (storage_state_stored, rules)

pub node_number-requires-2 : goal.node_number-requires-2
node_number-requires-2 c = search (storage_state_stored, rules)

pub slice_bounds-store_all-end : goal.slice_bounds-store_all-end
slice_bounds-store_all-end c = search (storage_state_stored, rules)

pub store_all-requires : goal.store_all-requires
store_all-requires c = search (storage_state_stored, rules)

pub returns : goal.returns
returns c = search (storage_state_stored, rules)
