-- Made by tools/uniform from proofs.txt, not by hand: 3f26353c61557c1c
use Rattle.state.specs.SizeLaws.{seen_begins}
use borrow.Author.Rules.{rules}
use Rattle.state.proofs.sizes.seen_at.Goals as goal

pub queue_at-requires : goal.queue_at-requires
queue_at-requires c = search (seen_begins, rules)

pub queue_words-requires : goal.queue_words-requires
queue_words-requires c = search (seen_begins, rules)

pub overflow_add-result : goal.overflow_add-result
overflow_add-result c = search (seen_begins, rules)

pub returns : goal.returns
returns c = search (seen_begins, rules)
