-- Made by tools/uniform from proofs.txt, not by hand: 14dc2e671501c665
use Rattle.state.specs.SizeLaws.{seen_counted}
use borrow.Author.Rules.{rules}
use Rattle.state.proofs.sizes.seen_words.Goals as goal

pub overflow_add-limits : goal.overflow_add-limits
overflow_add-limits c = search (seen_counted, rules)

pub overflow_add-limits-2 : goal.overflow_add-limits-2
overflow_add-limits-2 c = search (seen_counted, rules)

pub product-requires : goal.product-requires
product-requires c = search (seen_counted, rules)

pub returns : goal.returns
returns c = search (seen_counted, rules)
