-- Made by tools/uniform from proofs.txt, not by hand: 26a4b2ffd3508576
use Rattle.sim_outputs.specs.Laws.{passed_inside}
use Rattle.sim_attempt.specs.Networks.{may_delay}
use Rattle.sim_attempt.specs.Acts.{arrival_read}
use borrow.Author.Rules.{rules}
use Rattle.sim_attempt.proofs.arrival_at.Goals as goal

pub network_of-n-requires : goal.network_of-n-requires
network_of-n-requires c = search (passed_inside, may_delay, arrival_read, rules)

pub delay-d-requires : goal.delay-d-requires
delay-d-requires c = search (passed_inside, may_delay, arrival_read, rules)

pub sum64-requires : goal.sum64-requires
sum64-requires c = search (passed_inside, may_delay, arrival_read, rules)

pub returns : goal.returns
returns c = search (passed_inside, may_delay, arrival_read, rules)
