-- Made by tools/uniform from proofs.txt, not by hand: 4b61d4b5061d84c2
use Rattle.layout.specs.MarkedLaws.{reads}
use borrow.Author.Rules.{rules}
use Rattle.layout.proofs.marked.read_payload.Goals as goal

pub returns-then-mark-lt2 : goal.returns-then-mark-lt2
returns-then-mark-lt2 c = search (reads, rules)

pub returns : goal.returns
returns c = search (reads, rules)
