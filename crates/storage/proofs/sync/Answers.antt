-- Made by tools/uniform from proofs.txt, not by hand: 332c8df008e46c5b
use Rattle.storage.specs.StoresLaws.{synced}
use Rattle.storage.specs.PartLaws.{rooms}
use borrow.Author.Rules.{rules}
use Rattle.storage.proofs.sync.Goals as goal

pub unsynced_bytes-bytes-requires : goal.unsynced_bytes-bytes-requires
unsynced_bytes-bytes-requires c = search (rooms, rules)

pub clear-requires : goal.clear-requires
clear-requires c = search (rooms, rules)

pub returns : goal.returns
returns c = search (synced, rules)
