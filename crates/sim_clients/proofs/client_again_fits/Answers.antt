-- Made by tools/uniform from proofs.txt, not by hand: d1c4f1c846fc14b2
use Rattle.sim_outputs.specs.Laws.{passed_inside}
use Rattle.sim_clients.specs.EventLaws.{again_no, again_asked}
use borrow.Author.Rules.{rules}
use Rattle.sim_clients.proofs.client_again_fits.Goals as goal

pub client_of-client-requires : goal.client_of-client-requires
client_of-client-requires c = search (passed_inside, again_no, again_asked, rules)

pub awaits-requires : goal.awaits-requires
awaits-requires c = search (passed_inside, again_no, again_asked, rules)

pub returns-then-not-awaits : goal.returns-then-not-awaits
returns-then-not-awaits c = search (passed_inside, again_no, again_asked, rules)

pub attempt_fits-requires : goal.attempt_fits-requires
attempt_fits-requires c = search (passed_inside, again_no, again_asked, rules)

pub returns : goal.returns
returns c = search (passed_inside, again_no, again_asked, rules)
