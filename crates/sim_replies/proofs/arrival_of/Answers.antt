-- Made by tools/uniform from proofs.txt, not by hand: 24096bddeaba5823
use Rattle.sim_replies.specs.Laws.{arrival_read}
use borrow.Author.Rules.{rules}
use Rattle.sim_replies.proofs.arrival_of.Goals as goal

pub delay_drawn-drawn-requires : goal.delay_drawn-drawn-requires
delay_drawn-drawn-requires c = search (arrival_read, rules)

pub run_of-run-requires : goal.run_of-run-requires
run_of-run-requires c = search (arrival_read, rules)

pub sum64-requires : goal.sum64-requires
sum64-requires c = search (arrival_read, rules)

pub returns : goal.returns
returns c = search (arrival_read, rules)
