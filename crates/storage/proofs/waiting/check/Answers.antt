-- Made by tools/uniform from proofs.txt, not by hand: 1f62f653c6615e3e
use Rattle.layout.specs.TableLaws.{checks}
use borrow.Author.Rules.{rules}
use Rattle.storage.proofs.waiting.check.Goals as goal

pub returns-then-not-padding : goal.returns-then-not-padding
returns-then-not-padding c = search (checks, rules)

pub check_writes-requires : goal.check_writes-requires
check_writes-requires c = search (checks, rules)

pub returns : goal.returns
returns c = search (checks, rules)
