-- Made by tools/uniform from proofs.txt, not by hand: 6a7c216c38b441c0
use Rattle.state.specs.SizeLaws.{whole_counted}
use borrow.Author.Rules.{rules}
use Rattle.state.proofs.sizes.whole_words.Goals as goal

pub clients_at-requires : goal.clients_at-requires
clients_at-requires c = search (whole_counted, rules)

pub overflow_mul-result : goal.overflow_mul-result
overflow_mul-result c = search (whole_counted, rules)

pub overflow_add-result : goal.overflow_add-result
overflow_add-result c = search (whole_counted, rules)

pub returns : goal.returns
returns c = search (whole_counted, rules)
