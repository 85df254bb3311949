-- Made by tools/uniform from proofs.txt, not by hand: fe07d972dd570850
use Rattle.state.specs.Exits.{inside_after}
use Rattle.state_disk.specs.Laws.{crashed_at_lem}
use borrow.Author.Rules.{rules}
use Rattle.state_disk.proofs.crash.Goals as goal

pub disk_in-d-requires : goal.disk_in-d-requires
disk_in-d-requires c = search (crashed_at_lem, inside_after, rules)

pub storage_in-v-requires : goal.storage_in-v-requires
storage_in-v-requires c = search (crashed_at_lem, inside_after, rules)

pub slice_bounds-crash-count : goal.slice_bounds-crash-count
slice_bounds-crash-count c = search (crashed_at_lem, inside_after, rules)

pub slice_bounds-crash-start : goal.slice_bounds-crash-start
slice_bounds-crash-start c = search (crashed_at_lem, inside_after, rules)

pub slice_bounds-crash-end : goal.slice_bounds-crash-end
slice_bounds-crash-end c = search (crashed_at_lem, inside_after, rules)

pub crash-state-requires : goal.crash-state-requires
crash-state-requires c = search (crashed_at_lem, inside_after, rules)

pub store_storage-requires : goal.store_storage-requires
store_storage-requires c = search (crashed_at_lem, inside_after, rules)

pub returns : goal.returns
returns c = crashed_at_lem _ _ _ _ _ _ _ c.requires.k_lt_servers c.disk_in-d.ensures c.storage_in-v.ensures _ c.crash-state.ensures c.store_storage.ensures
