-- Made by tools/uniform from proofs.txt, not by hand: fc20c2cb49c390c9
use Rattle.state.specs.SizeLaws.{queue_begins}
use borrow.Author.Rules.{rules}
use Rattle.state.proofs.sizes.queue_at.Goals as goal

pub block_words-requires : goal.block_words-requires
block_words-requires c = search (queue_begins, rules)

pub product-requires : goal.product-requires
product-requires c = search (queue_begins, rules)

pub overflow_add-result : goal.overflow_add-result
overflow_add-result c = search (queue_begins, rules)

pub returns : goal.returns
returns c = search (queue_begins, rules)
