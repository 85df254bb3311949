-- Made by tools/uniform from proofs.txt, not by hand: f3c014c340f5407e
use Rattle.state.specs.Loads.{open_stored}
use borrow.Author.Rules.{rules}
use Rattle.state.proofs.header.store_open.Goals as goal

pub slice_bounds-store_all-end : goal.slice_bounds-store_all-end
slice_bounds-store_all-end c = search (open_stored, rules)

pub store_all-requires : goal.store_all-requires
store_all-requires c = search (open_stored, rules)

pub returns : goal.returns
returns c = search (open_stored, rules)
