-- Made by tools/uniform from proofs.txt, not by hand: 0e43ceed32423925
use Rattle.layout.specs.TableLaws.{checks}
use borrow.Author.Rules.{rules}
use Rattle.layout.proofs.applied.check.Goals as goal

pub returns-then-not-padding : goal.returns-then-not-padding
returns-then-not-padding c = search (checks, rules)

pub payloads-requires : goal.payloads-requires
payloads-requires c = search (checks, rules)

pub returns : goal.returns
returns c = search (checks, rules)
