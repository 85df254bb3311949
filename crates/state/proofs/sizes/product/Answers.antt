-- Made by tools/uniform from proofs.txt, not by hand: e587e6d4d608d4f8
use Rattle.state.specs.SizeLaws.{rows_fit, rows_are}
use borrow.Author.Rules.{rules}
use Rattle.state.proofs.sizes.product.Goals as goal

pub overflow_mul-result : goal.overflow_mul-result
overflow_mul-result c = search (rows_fit, rows_are, rules)

pub returns : goal.returns
returns c = search (rows_fit, rows_are, rules)
