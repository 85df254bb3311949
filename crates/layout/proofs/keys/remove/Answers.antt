-- Made by tools/uniform from proofs.txt, not by hand: 1c017c9cffb3cb5d
use Rattle.layout.specs.SortedTables.{found}
use Rattle.layout.specs.KeyLaws.{key}
use borrow.Author.Rules.{rules}
use Rattle.layout.proofs.keys.remove.Goals as goal

pub remove_row-requires : goal.remove_row-requires
remove_row-requires c = search (key, found, rules)

pub overflow_sub-result : goal.overflow_sub-result
overflow_sub-result c = search (key, found, rules)

pub returns-in-Ok : goal.returns-in-Ok
returns-in-Ok c = search (key, found, rules)

pub returns-in-Err : goal.returns-in-Err
returns-in-Err c = search (key, found, rules)
