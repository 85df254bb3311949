-- Made by tools/uniform from proofs.txt, not by hand: 428c8808b0d46421
use Rattle.state_asks.specs.Laws.{seen_begins}
use borrow.Author.Rules.{rules}
use Rattle.state_asks.proofs.numbers.seen_at.Goals as goal

pub seen_at-requires : goal.seen_at-requires
seen_at-requires c = search (seen_begins, rules)

pub returns : goal.returns
returns c = search (seen_begins, rules)
