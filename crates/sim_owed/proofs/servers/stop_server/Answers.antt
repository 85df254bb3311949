-- Made by tools/uniform from proofs.txt, not by hand: b7bb11258f9c310a
use Rattle.state.specs.Exits.{inside_after}
use Rattle.sim_owed.specs.ServerLaws.{server_stopped}
use borrow.Author.Rules.{rules}
use Rattle.sim_owed.proofs.servers.stop_server.Goals as goal

pub server_of-x-requires : goal.server_of-x-requires
server_of-x-requires c = search (inside_after, server_stopped, rules)

pub stopped-next-requires : goal.stopped-next-requires
stopped-next-requires c = search (inside_after, server_stopped, rules)

pub set_server-requires : goal.set_server-requires
set_server-requires c = search (inside_after, server_stopped, rules)

pub crash-requires : goal.crash-requires
crash-requires c = search (inside_after, server_stopped, rules)

pub clear_pending-requires : goal.clear_pending-requires
clear_pending-requires c = search (inside_after, server_stopped, rules)

pub returns : goal.returns
returns c = search (inside_after, server_stopped, rules)
