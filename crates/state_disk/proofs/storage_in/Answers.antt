-- Made by tools/uniform from proofs.txt, not by hand: f7a739cb9c7ed263
use Rattle.state_disk.specs.Laws.{storage_in, storage_past}
use borrow.Author.Rules.{rules}
use Rattle.state_disk.proofs.storage_in.Goals as goal

pub storage_of-v-requires : goal.storage_of-v-requires
storage_of-v-requires c = search (storage_in, storage_past, rules)

pub returns-then-limits-v : goal.returns-then-limits-v
returns-then-limits-v c = search (storage_in, storage_past, rules)

pub returns : goal.returns
returns c = search (storage_in, storage_past, rules)
