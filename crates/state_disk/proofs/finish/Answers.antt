-- Made by tools/uniform from proofs.txt, not by hand: 7f254e86e9e0f3b0
use Rattle.state_disk.specs.Laws.{finish_done, finish_refused}
use borrow.Author.Rules.{rules}
use Rattle.state_disk.proofs.finish.Goals as goal

pub store_storage-requires : goal.store_storage-requires
store_storage-requires c = search (finish_done, finish_refused, rules)

pub from-requires : goal.from-requires
from-requires c = search (finish_done, finish_refused, rules)

pub from-requires-in-Err : goal.from-requires-in-Err
from-requires-in-Err c = search (finish_done, finish_refused, rules)

pub returns-in-Ok : goal.returns-in-Ok
returns-in-Ok c = finish_done _ _ _ _ _ _ c.in-Ok.is c.store_storage.ensures

pub returns-in-Err : goal.returns-in-Err
returns-in-Err c = search (finish_done, finish_refused, rules)
