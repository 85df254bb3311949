-- Made by tools/uniform from proofs.txt, not by hand: b61a7fb2a4066fc6
use Rattle.state_asks.specs.Laws.{block_begins}
use borrow.Author.Rules.{rules}
use Rattle.state_asks.proofs.numbers.block_at.Goals as goal

pub block_at-requires : goal.block_at-requires
block_at-requires c = search (block_begins, rules)

pub returns : goal.returns
returns c = search (block_begins, rules)
