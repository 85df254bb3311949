-- Made by tools/uniform from proofs.txt, not by hand: 2bf34ad5d6fcd03b
use Rattle.layout.specs.SortedTables.{found_yes, found_no}
use Rattle.layout.specs.KeyLaws.{key_read, no_key}
use borrow.Author.Rules.{rules}
use Rattle.layout.proofs.keys.contains.Goals as goal

pub returns : goal.returns
returns c = search (found_yes, found_no, key_read, no_key, rules)
