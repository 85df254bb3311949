-- Made by tools/uniform from proofs.txt, not by hand: 2eff6b3d57d8ff24
use Rattle.layout.specs.MarkedLaws.{reads}
use borrow.Author.Rules.{rules}
use Rattle.layout.proofs.marked.read_message.Goals as goal

pub returns : goal.returns
returns c = search (reads, rules)
