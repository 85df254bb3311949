-- Made by tools/uniform from proofs.txt, not by hand: 231c8bb2b311d668
use Rattle.state.specs.SizeLaws.{replies_begin}
use borrow.Author.Rules.{rules}
use Rattle.state.proofs.sizes.replies_at.Goals as goal

pub leaders_at-requires : goal.leaders_at-requires
leaders_at-requires c = search (replies_begin, rules)

pub overflow_mul-result : goal.overflow_mul-result
overflow_mul-result c = search (replies_begin, rules)

pub overflow_add-result : goal.overflow_add-result
overflow_add-result c = search (replies_begin, rules)

pub returns : goal.returns
returns c = search (replies_begin, rules)
