-- Made by tools/uniform from proofs.txt, not by hand: 5cf69787e2d65a85
use Rattle.state.specs.Loads.{counts_stored}
use borrow.Author.Rules.{rules}
use Rattle.state.proofs.header.store_counts.Goals as goal

pub slice_bounds-store_all-end : goal.slice_bounds-store_all-end
slice_bounds-store_all-end c = search (counts_stored, rules)

pub store_all-requires : goal.store_all-requires
store_all-requires c = search (counts_stored, rules)

pub returns : goal.returns
returns c = search (counts_stored, rules)
