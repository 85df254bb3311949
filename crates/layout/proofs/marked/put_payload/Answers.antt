-- Made by tools/uniform from proofs.txt, not by hand: 3089df80ea123052
use Rattle.layout.specs.MarkedLaws.{kind_puts}
use borrow.Author.Rules.{rules}
use Rattle.layout.proofs.marked.put_payload.Goals as goal

pub returns : goal.returns
returns c = search (kind_puts, rules)
