-- Made by tools/uniform from proofs.txt, not by hand: eefee05e203dc55d
use Rattle.state_disk.specs.Laws.{storage_read}
use borrow.Author.Rules.{rules}
use Rattle.state_disk.proofs.storage_of.Goals as goal

pub disk_in-d-requires : goal.disk_in-d-requires
disk_in-d-requires c = search (storage_read, rules)

pub overflow_add-e : goal.overflow_add-e
overflow_add-e c = search (storage_read, rules)

pub slice_bounds-load_storage_state-count : goal.slice_bounds-load_storage_state-count
slice_bounds-load_storage_state-count c = search (storage_read, rules)

pub slice_bounds-load_storage_state-start : goal.slice_bounds-load_storage_state-start
slice_bounds-load_storage_state-start c = search (storage_read, rules)

pub slice_bounds-load_storage_state-end : goal.slice_bounds-load_storage_state-end
slice_bounds-load_storage_state-end c = search (storage_read, rules)

pub load_storage_state-requires : goal.load_storage_state-requires
load_storage_state-requires c = search (storage_read, rules)

pub returns : goal.returns
returns c = storage_read _ _ _ _ c.requires.k_lt_servers c.disk_in-d.ensures _ c.load_storage_state.ensures
