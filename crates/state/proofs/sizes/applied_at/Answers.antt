-- Made by tools/uniform from proofs.txt, not by hand: da2ce647d3c93760
use Rattle.state.specs.SizeLaws.{applied_begins}
use borrow.Author.Rules.{rules}
use Rattle.state.proofs.sizes.applied_at.Goals as goal

pub confirmations_at-requires : goal.confirmations_at-requires
confirmations_at-requires c = search (applied_begins, rules)

pub overflow_mul-result : goal.overflow_mul-result
overflow_mul-result c = search (applied_begins, rules)

pub overflow_add-result : goal.overflow_add-result
overflow_add-result c = search (applied_begins, rules)

pub returns : goal.returns
returns c = search (applied_begins, rules)
