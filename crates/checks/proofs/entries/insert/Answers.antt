-- Made by tools/uniform from proofs.txt, not by hand: 84e82151f95ffa1c
use Rattle.checks.specs.EntryLaws.{entry_inserts}
use borrow.Author.Rules.{rules}
use Rattle.checks.proofs.entries.insert.Goals as goal

pub returns : goal.returns
returns c = entry_inserts (search rules) (search rules) (search rules) c.place-i.ensures.0 c.start-at.ensures.0 c.open_row.ensures c.store_all.ensures c.copy_from.ensures
