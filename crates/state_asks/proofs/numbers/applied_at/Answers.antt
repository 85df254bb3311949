-- Made by tools/uniform from proofs.txt, not by hand: b16278a675ee83bf
use Rattle.state_asks.specs.Laws.{applied_begins}
use borrow.Author.Rules.{rules}
use Rattle.state_asks.proofs.numbers.applied_at.Goals as goal

pub applied_at-requires : goal.applied_at-requires
applied_at-requires c = search (applied_begins, rules)

pub returns : goal.returns
returns c = search (applied_begins, rules)
