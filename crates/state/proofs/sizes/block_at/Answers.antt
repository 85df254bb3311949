-- Made by tools/uniform from proofs.txt, not by hand: 8535641053e0ad79
use Rattle.state.specs.SizeLaws.{block_begins}
use borrow.Author.Rules.{rules}
use Rattle.state.proofs.sizes.block_at.Goals as goal

pub block_words-requires : goal.block_words-requires
block_words-requires c = search (block_begins, rules)

pub product-requires : goal.product-requires
product-requires c = search (block_begins, rules)

pub overflow_add-result : goal.overflow_add-result
overflow_add-result c = search (block_begins, rules)

pub returns : goal.returns
returns c = search (block_begins, rules)
