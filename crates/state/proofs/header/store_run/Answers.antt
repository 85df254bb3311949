-- Made by tools/uniform from proofs.txt, not by hand: 01857ac503e85017
use Rattle.state.specs.Loads.{run_stored}
use borrow.Author.Rules.{rules}
use Rattle.state.proofs.header.store_run.Goals as goal

pub slice_bounds-store_all-end : goal.slice_bounds-store_all-end
slice_bounds-store_all-end c = search (run_stored, rules)

pub store_all-requires : goal.store_all-requires
store_all-requires c = search (run_stored, rules)

pub returns : goal.returns
returns c = search (run_stored, rules)
