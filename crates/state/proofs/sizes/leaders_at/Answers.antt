-- Made by tools/uniform from proofs.txt, not by hand: 81c10648b0c74612
use Rattle.state.specs.SizeLaws.{leaders_begin}
use borrow.Author.Rules.{rules}
use Rattle.state.proofs.sizes.leaders_at.Goals as goal

pub seen_at-requires : goal.seen_at-requires
seen_at-requires c = search (leaders_begin, rules)

pub seen_words-requires : goal.seen_words-requires
seen_words-requires c = search (leaders_begin, rules)

pub overflow_add-result : goal.overflow_add-result
overflow_add-result c = search (leaders_begin, rules)

pub returns : goal.returns
returns c = search (leaders_begin, rules)
