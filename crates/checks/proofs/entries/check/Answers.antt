-- Made by tools/uniform from proofs.txt, not by hand: 34bfd99fa6a3aee5
use Rattle.layout.specs.TableLaws.{checks}
use Rattle.checks.specs.EntryLaws.{entries_rising}
use borrow.Author.Rules.{rules}
use Rattle.checks.proofs.entries.check.Goals as goal

pub returns : goal.returns
returns c = search (checks, entries_rising, rules)
