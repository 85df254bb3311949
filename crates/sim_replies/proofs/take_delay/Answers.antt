-- Made by tools/uniform from proofs.txt, not by hand: 27b2e7bf25903913
use Rattle.sim_replies.specs.Laws.{delay_taken_lem}
use borrow.Author.Rules.{rules}
use Rattle.sim_replies.proofs.take_delay.Goals as goal

pub delay_drawn-drawn-requires : goal.delay_drawn-drawn-requires
delay_drawn-drawn-requires c = search (delay_taken_lem, rules)

pub set_network-requires : goal.set_network-requires
set_network-requires c = search (delay_taken_lem, rules)

pub returns : goal.returns
returns c = search (delay_taken_lem, rules)
