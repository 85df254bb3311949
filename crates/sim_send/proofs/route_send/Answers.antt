-- Made by tools/uniform from proofs.txt, not by hand: 77becaf8b6fc8d1e
use Rattle.sim_outputs.specs.Laws.{passed_inside}
use Rattle.sim_send.specs.Draws.{may_route}
use Rattle.sim_send.specs.Acts.{route_sent}
use borrow.Author.Rules.{rules}
use Rattle.sim_send.proofs.route_send.Goals as goal

pub network_of-n-requires : goal.network_of-n-requires
network_of-n-requires c = search (passed_inside, may_route, route_sent, rules)

pub invariant_of-route : goal.invariant_of-route
invariant_of-route c = search (passed_inside, may_route, route_sent, rules)

pub route-routed-requires : goal.route-routed-requires
route-routed-requires c = search (passed_inside, may_route, route_sent, rules)

pub set_network-requires : goal.set_network-requires
set_network-requires c = search (passed_inside, may_route, route_sent, rules)

pub returns : goal.returns
returns c = search (passed_inside, may_route, route_sent, rules)
