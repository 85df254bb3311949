-- Made by tools/uniform from proofs.txt, not by hand: a29a34e467e39500
use Rattle.sim_events.specs.Laws.{start_fresh, start_old}
use borrow.Author.Rules.{rules}
use Rattle.sim_events.proofs.start_event.Goals as goal

pub server_of-x-requires : goal.server_of-x-requires
server_of-x-requires c = search (start_fresh, start_old, rules)

pub fresh-requires : goal.fresh-requires
fresh-requires c = search (start_fresh, start_old, rules)

pub start_server-requires : goal.start_server-requires
start_server-requires c = search (start_fresh, start_old, rules)

pub returns-then-fresh : goal.returns-then-fresh
returns-then-fresh c = search (start_fresh, start_old, rules)

pub close_phase-requires : goal.close_phase-requires
close_phase-requires c = search (start_fresh, start_old, rules)

pub returns : goal.returns
returns c = search (start_fresh, start_old, rules)
