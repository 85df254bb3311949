-- Made by tools/uniform from proofs.txt, not by hand: 54210b233fbffcb1
use Rattle.state.specs.Exits.{inside_after}
use Rattle.sim_seal_sync.specs.Laws.{input_synced}
use borrow.Author.Rules.{rules}
use Rattle.sim_seal_sync.proofs.sync_input.Goals as goal

pub check_writes-requires : goal.check_writes-requires
check_writes-requires c = search (inside_after, input_synced, rules)

pub sync_counted-requires : goal.sync_counted-requires
sync_counted-requires c = search (inside_after, input_synced, rules)

pub set_open-requires : goal.set_open-requires
set_open-requires c = search (inside_after, input_synced, rules)

pub returns : goal.returns
returns c = search (inside_after, input_synced, rules)
