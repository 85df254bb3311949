-- Made by tools/uniform from proofs.txt, not by hand: 4601620841819139
use Rattle.state.specs.SizeLaws.{confirmations_begin}
use borrow.Author.Rules.{rules}
use Rattle.state.proofs.sizes.confirmations_at.Goals as goal

pub replies_at-requires : goal.replies_at-requires
replies_at-requires c = search (confirmations_begin, rules)

pub overflow_mul-result : goal.overflow_mul-result
overflow_mul-result c = search (confirmations_begin, rules)

pub overflow_add-result : goal.overflow_add-result
overflow_add-result c = search (confirmations_begin, rules)

pub returns : goal.returns
returns c = search (confirmations_begin, rules)
