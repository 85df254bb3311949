-- Made by tools/uniform from proofs.txt, not by hand: 0490fd5fdc6308bc
use Rattle.state.specs.SizeLaws.{clients_begin}
use borrow.Author.Rules.{rules}
use Rattle.state.proofs.sizes.clients_at.Goals as goal

pub applied_at-requires : goal.applied_at-requires
applied_at-requires c = search (clients_begin, rules)

pub applied_words-requires : goal.applied_words-requires
applied_words-requires c = search (clients_begin, rules)

pub overflow_add-result : goal.overflow_add-result
overflow_add-result c = search (clients_begin, rules)

pub returns : goal.returns
returns c = search (clients_begin, rules)
