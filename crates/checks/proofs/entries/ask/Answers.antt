-- Made by tools/uniform from proofs.txt, not by hand: 6452f38ebff81a77
use Rattle.checks.specs.EntryLaws.{entry_asks}
use borrow.Author.Rules.{rules}
use Rattle.checks.proofs.entries.ask.Goals as goal

pub returns-in-Err : goal.returns-in-Err
returns-in-Err c = search (entry_asks, rules)
