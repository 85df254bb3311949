-- Made by tools/uniform from proofs.txt, not by hand: 308ed5881b3cd929
use Rattle.sim_outputs.specs.Laws.{passed_inside}
use Rattle.sim_clients.specs.EventLaws.{send_waits, send_asked}
use borrow.Author.Rules.{rules}
use Rattle.sim_clients.proofs.client_send_fits.Goals as goal

pub client_of-client-requires : goal.client_of-client-requires
client_of-client-requires c = search (passed_inside, send_waits, send_asked, rules)

pub is_waiting-requires : goal.is_waiting-requires
is_waiting-requires c = search (passed_inside, send_waits, send_asked, rules)

pub returns-then-is_waiting : goal.returns-then-is_waiting
returns-then-is_waiting c = search (passed_inside, send_waits, send_asked, rules)

pub sum64-next-requires : goal.sum64-next-requires
sum64-next-requires c = search (passed_inside, send_waits, send_asked, rules)

pub attempt_fits-fits-requires : goal.attempt_fits-fits-requires
attempt_fits-fits-requires c = search (passed_inside, send_waits, send_asked, rules)

pub returns : goal.returns
returns c = search (passed_inside, send_waits, send_asked, rules)
