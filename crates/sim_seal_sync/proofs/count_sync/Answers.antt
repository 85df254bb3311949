-- Made by tools/uniform from proofs.txt, not by hand: 6164673cadede999
use Rattle.sim_seal_sync.specs.Laws.{count_none, count_some}
use borrow.Author.Rules.{rules}
use Rattle.sim_seal_sync.proofs.count_sync.Goals as goal

pub unsynced_of-told-requires : goal.unsynced_of-told-requires
unsynced_of-told-requires c = search (count_none, count_some, rules)

pub metrics_of-m-requires : goal.metrics_of-m-requires
metrics_of-m-requires c = search (count_none, count_some, rules)

pub returns-then-not-told : goal.returns-then-not-told
returns-then-not-told c = search (count_none, count_some, rules)

pub record_sync-requires : goal.record_sync-requires
record_sync-requires c = search (count_none, count_some, rules)

pub returns : goal.returns
returns c = search (count_none, count_some, rules)
