-- Made by tools/uniform from proofs.txt, not by hand: c36cea4ba082bdf6
use Rattle.state.specs.SizeLaws.{waiting_counted}
use borrow.Author.Rules.{rules}
use Rattle.state.proofs.sizes.waiting_words.Goals as goal

pub overflow_add-limits : goal.overflow_add-limits
overflow_add-limits c = search (waiting_counted, rules)

pub overflow_add-limits-2 : goal.overflow_add-limits-2
overflow_add-limits-2 c = search (waiting_counted, rules)

pub product-requires : goal.product-requires
product-requires c = search (waiting_counted, rules)

pub returns : goal.returns
returns c = search (waiting_counted, rules)
