-- Made by tools/uniform from proofs.txt, not by hand: a020a6fbe262cf4f
use Rattle.state_asks.specs.Laws.{replies_begin}
use borrow.Author.Rules.{rules}
use Rattle.state_asks.proofs.numbers.replies_at.Goals as goal

pub replies_at-requires : goal.replies_at-requires
replies_at-requires c = search (replies_begin, rules)

pub returns : goal.returns
returns c = search (replies_begin, rules)
