-- Made by tools/uniform from proofs.txt, not by hand: a8bfa7bc725950fe
use Rattle.sim_replies.specs.Laws.{delay_read}
use borrow.Author.Rules.{rules}
use Rattle.sim_replies.proofs.delay_drawn.Goals as goal

pub network_of-n-requires : goal.network_of-n-requires
network_of-n-requires c = search (delay_read, rules)

pub delay_within-requires : goal.delay_within-requires
delay_within-requires c = search (delay_read, rules)

pub returns : goal.returns
returns c = search (delay_read, rules)
