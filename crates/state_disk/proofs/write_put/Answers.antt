-- Made by tools/uniform from proofs.txt, not by hand: f1d6a234f45e3828
use Rattle.state.specs.Exits.{inside_after}
use Rattle.state_disk.specs.Laws.{put_written}
use borrow.Author.Rules.{rules}
use Rattle.state_disk.proofs.write_put.Goals as goal

pub disk_in-d-requires : goal.disk_in-d-requires
disk_in-d-requires c = search (put_written, inside_after, rules)

pub storage_of-v-requires : goal.storage_of-v-requires
storage_of-v-requires c = search (put_written, inside_after, rules)

pub slice_bounds-put-count : goal.slice_bounds-put-count
slice_bounds-put-count c = search (put_written, inside_after, rules)

pub slice_bounds-put-start : goal.slice_bounds-put-start
slice_bounds-put-start c = search (put_written, inside_after, rules)

pub slice_bounds-put-end : goal.slice_bounds-put-end
slice_bounds-put-end c = search (put_written, inside_after, rules)

pub put-r-requires : goal.put-r-requires
put-r-requires c = search (put_written, inside_after, rules)

pub finish-requires : goal.finish-requires
finish-requires c = search (put_written, inside_after, rules)

pub returns : goal.returns
returns c = put_written _ _ _ _ _ _ _ _ _ c.requires.k_lt_servers _ _ _ c.requires.le_index.0 c.requires.le_index.1 c.disk_in-d.ensures c.storage_of-v.ensures c.put-r.ensures c.finish.ensures
