-- Made by tools/uniform from proofs.txt, not by hand: dfc65af1b4d54163
use Rattle.sim_outputs.specs.Laws.{passed_inside}
use Rattle.sim_attempt.specs.Networks.{may_delay}
use Rattle.sim_attempt.specs.Acts.{delay_drawn_lem}
use borrow.Author.Rules.{rules}
use Rattle.sim_attempt.proofs.draw_delay.Goals as goal

pub network_of-n-requires : goal.network_of-n-requires
network_of-n-requires c = search (passed_inside, may_delay, delay_drawn_lem, rules)

pub delay-d-requires : goal.delay-d-requires
delay-d-requires c = search (passed_inside, may_delay, delay_drawn_lem, rules)

pub set_network-requires : goal.set_network-requires
set_network-requires c = search (passed_inside, may_delay, delay_drawn_lem, rules)

pub returns : goal.returns
returns c = search (passed_inside, may_delay, delay_drawn_lem, rules)
