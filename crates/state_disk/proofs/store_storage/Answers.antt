-- Made by tools/uniform from proofs.txt, not by hand: ca984f574476b462
use Rattle.state_disk.specs.Laws.{storage_stored}
use borrow.Author.Rules.{rules}
use Rattle.state_disk.proofs.store_storage.Goals as goal

pub disk_in-d-requires : goal.disk_in-d-requires
disk_in-d-requires c = search (storage_stored, rules)

pub overflow_add-e : goal.overflow_add-e
overflow_add-e c = search (storage_stored, rules)

pub slice_bounds-store_storage_state-count : goal.slice_bounds-store_storage_state-count
slice_bounds-store_storage_state-count c = search (storage_stored, rules)

pub slice_bounds-store_storage_state-start : goal.slice_bounds-store_storage_state-start
slice_bounds-store_storage_state-start c = search (storage_stored, rules)

pub slice_bounds-store_storage_state-end : goal.slice_bounds-store_storage_state-end
slice_bounds-store_storage_state-end c = search (storage_stored, rules)

pub store_storage_state-requires : goal.store_storage_state-requires
store_storage_state-requires c = search (storage_stored, rules)

pub returns : goal.returns
returns c = storage_stored _ _ _ _ c.requires.k_lt_servers c.disk_in-d.ensures _ _ c.store_storage_state.ensures
