-- Made by tools/uniform from proofs.txt, not by hand: 6b96b5219a091655
use Rattle.state.specs.Exits.{inside_after}
use Rattle.state_disk.specs.Laws.{truncate_written}
use borrow.Author.Rules.{rules}
use Rattle.state_disk.proofs.write_truncate.Goals as goal

pub disk_in-d-requires : goal.disk_in-d-requires
disk_in-d-requires c = search (truncate_written, inside_after, rules)

pub storage_of-v-requires : goal.storage_of-v-requires
storage_of-v-requires c = search (truncate_written, inside_after, rules)

pub slice_bounds-truncate-count : goal.slice_bounds-truncate-count
slice_bounds-truncate-count c = search (truncate_written, inside_after, rules)

pub slice_bounds-truncate-start : goal.slice_bounds-truncate-start
slice_bounds-truncate-start c = search (truncate_written, inside_after, rules)

pub slice_bounds-truncate-end : goal.slice_bounds-truncate-end
slice_bounds-truncate-end c = search (truncate_written, inside_after, rules)

pub truncate-r-requires : goal.truncate-r-requires
truncate-r-requires c = search (truncate_written, inside_after, rules)

pub finish-requires : goal.finish-requires
finish-requires c = search (truncate_written, inside_after, rules)

pub returns : goal.returns
returns c = truncate_written _ _ _ _ _ _ _ _ _ c.requires.k_lt_servers _ c.disk_in-d.ensures c.storage_of-v.ensures c.truncate-r.ensures c.finish.ensures
