-- Made by tools/uniform from proofs.txt, not by hand: 188b741cfdddbab9
use Rattle.state.specs.SizeLaws.{queue_counted}
use borrow.Author.Rules.{rules}
use Rattle.state.proofs.sizes.queue_words.Goals as goal

pub overflow_add-limits : goal.overflow_add-limits
overflow_add-limits c = search (queue_counted, rules)

pub overflow_add-limits-2 : goal.overflow_add-limits-2
overflow_add-limits-2 c = search (queue_counted, rules)

pub product-requires : goal.product-requires
product-requires c = search (queue_counted, rules)

pub returns : goal.returns
returns c = search (queue_counted, rules)
