-- Made by tools/uniform from proofs.txt, not by hand: fd4313b2461f3985
use Rattle.state.specs.Loads.{no_status_stored, status_stored}
use borrow.Author.Rules.{rules}
use Rattle.state.proofs.server.store_status.Goals as goal

pub store_all-requires : goal.store_all-requires
store_all-requires c = search (no_status_stored, status_stored, rules)

pub from-requires : goal.from-requires
from-requires c = search (no_status_stored, status_stored, rules)

pub node_flag-requires : goal.node_flag-requires
node_flag-requires c = search (no_status_stored, status_stored, rules)

pub node_number-requires : goal.node_number-requires
node_number-requires c = search (no_status_stored, status_stored, rules)

pub slice_bounds-store_all-end-in-Some : goal.slice_bounds-store_all-end-in-Some
slice_bounds-store_all-end-in-Some c = search (no_status_stored, status_stored, rules)

pub store_all-requires-in-Some : goal.store_all-requires-in-Some
store_all-requires-in-Some c = search (no_status_stored, status_stored, rules)

pub returns-in-None : goal.returns-in-None
returns-in-None c = search (no_status_stored, status_stored, rules)

pub returns-in-Some : goal.returns-in-Some
returns-in-Some c = search (no_status_stored, status_stored, rules)
