-- Made by tools/uniform from proofs.txt, not by hand: 768c67acd26c387a
use Rattle.state.specs.SizeLaws.{applied_counted}
use borrow.Author.Rules.{rules}
use Rattle.state.proofs.sizes.applied_words.Goals as goal

pub overflow_add-limits : goal.overflow_add-limits
overflow_add-limits c = search (applied_counted, rules)

pub overflow_add-limits-2 : goal.overflow_add-limits-2
overflow_add-limits-2 c = search (applied_counted, rules)

pub product-requires : goal.product-requires
product-requires c = search (applied_counted, rules)

pub returns : goal.returns
returns c = search (applied_counted, rules)
