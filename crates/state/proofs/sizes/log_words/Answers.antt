-- Made by tools/uniform from proofs.txt, not by hand: 41aae5cd051f494d
use Rattle.state.specs.SizeLaws.{log_counted}
use borrow.Author.Rules.{rules}
use Rattle.state.proofs.sizes.log_words.Goals as goal

pub overflow_add-limits : goal.overflow_add-limits
overflow_add-limits c = search (log_counted, rules)

pub overflow_add-limits-2 : goal.overflow_add-limits-2
overflow_add-limits-2 c = search (log_counted, rules)

pub product-requires : goal.product-requires
product-requires c = search (log_counted, rules)

pub returns : goal.returns
returns c = search (log_counted, rules)
