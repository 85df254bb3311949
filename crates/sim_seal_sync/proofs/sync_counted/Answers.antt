-- Made by tools/uniform from proofs.txt, not by hand: 1937ff2cb93d79b6
use Rattle.state.specs.Exits.{inside_after}
use Rattle.sim_seal_sync.specs.Laws.{counted_synced}
use borrow.Author.Rules.{rules}
use Rattle.sim_seal_sync.proofs.sync_counted.Goals as goal

pub metrics_of-m-requires : goal.metrics_of-m-requires
metrics_of-m-requires c = search (inside_after, counted_synced, rules)

pub count_sync-requires : goal.count_sync-requires
count_sync-requires c = search (inside_after, counted_synced, rules)

pub unwrap_or-next-requires : goal.unwrap_or-next-requires
unwrap_or-next-requires c = search (inside_after, counted_synced, rules)

pub set_metrics-requires : goal.set_metrics-requires
set_metrics-requires c = search (inside_after, counted_synced, rules)

pub sync-requires : goal.sync-requires
sync-requires c = search (inside_after, counted_synced, rules)

pub returns : goal.returns
returns c = search (inside_after, counted_synced, rules)
