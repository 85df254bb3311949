-- Made by tools/uniform from proofs.txt, not by hand: e29493372ec55e97
use Rattle.sim_outputs.specs.Laws.{passed_inside}
use Rattle.sim_send.specs.Draws.{may_route, mail_drawn}
use borrow.Author.Rules.{rules}
use Rattle.sim_send.proofs.mail_drawn.Goals as goal

pub network_of-n-requires : goal.network_of-n-requires
network_of-n-requires c = search (passed_inside, may_route, mail_drawn, rules)

pub invariant_of-route : goal.invariant_of-route
invariant_of-route c = search (passed_inside, may_route, mail_drawn, rules)

pub route-routed-requires : goal.route-routed-requires
route-routed-requires c = search (passed_inside, may_route, mail_drawn, rules)

pub run_of-run-requires : goal.run_of-run-requires
run_of-run-requires c = search (passed_inside, may_route, mail_drawn, rules)

pub mail_of-requires : goal.mail_of-requires
mail_of-requires c = search (passed_inside, may_route, mail_drawn, rules)

pub returns : goal.returns
returns c = search (passed_inside, may_route, mail_drawn, rules)
