-- Made by tools/uniform from proofs.txt, not by hand: efd91f1e1c4aefce
use Rattle.state_asks.specs.Laws.{leaders_begin}
use borrow.Author.Rules.{rules}
use Rattle.state_asks.proofs.numbers.leaders_at.Goals as goal

pub leaders_at-requires : goal.leaders_at-requires
leaders_at-requires c = search (leaders_begin, rules)

pub returns : goal.returns
returns c = search (leaders_begin, rules)
