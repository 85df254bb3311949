-- Made by tools/uniform from proofs.txt, not by hand: 492eff7e97cad054
use Rattle.state_header.specs.Laws.{counts_read}
use borrow.Author.Rules.{rules}
use Rattle.state_header.proofs.counts_of.Goals as goal

pub returns : goal.returns
returns c = search (counts_read, rules)
