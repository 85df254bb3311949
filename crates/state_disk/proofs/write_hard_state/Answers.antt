-- Made by tools/uniform from proofs.txt, not by hand: 2fcc149830bdb549
use Rattle.state.specs.Exits.{inside_after}
use Rattle.state_disk.specs.Laws.{hard_state_written}
use borrow.Author.Rules.{rules}
use Rattle.state_disk.proofs.write_hard_state.Goals as goal

pub disk_in-d-requires : goal.disk_in-d-requires
disk_in-d-requires c = search (hard_state_written, inside_after, rules)

pub storage_of-v-requires : goal.storage_of-v-requires
storage_of-v-requires c = search (hard_state_written, inside_after, rules)

pub slice_bounds-set_hard_state-count : goal.slice_bounds-set_hard_state-count
slice_bounds-set_hard_state-count c = search (hard_state_written, inside_after, rules)

pub slice_bounds-set_hard_state-start : goal.slice_bounds-set_hard_state-start
slice_bounds-set_hard_state-start c = search (hard_state_written, inside_after, rules)

pub slice_bounds-set_hard_state-end : goal.slice_bounds-set_hard_state-end
slice_bounds-set_hard_state-end c = search (hard_state_written, inside_after, rules)

pub set_hard_state-r-requires : goal.set_hard_state-r-requires
set_hard_state-r-requires c = search (hard_state_written, inside_after, rules)

pub finish-requires : goal.finish-requires
finish-requires c = search (hard_state_written, inside_after, rules)

pub returns : goal.returns
returns c = hard_state_written _ _ _ _ _ _ _ _ _ c.requires.k_lt_servers _ c.disk_in-d.ensures c.storage_of-v.ensures c.set_hard_state-r.ensures c.finish.ensures
