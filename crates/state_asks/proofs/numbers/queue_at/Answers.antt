-- Made by tools/uniform from proofs.txt, not by hand: 06048b684f4e3396
use Rattle.state_asks.specs.Laws.{queue_begins}
use borrow.Author.Rules.{rules}
use Rattle.state_asks.proofs.numbers.queue_at.Goals as goal

pub queue_at-requires : goal.queue_at-requires
queue_at-requires c = search (queue_begins, rules)

pub returns : goal.returns
returns c = search (queue_begins, rules)
