-- Made by tools/uniform from proofs.txt, not by hand: 027434ce75eb7600
use Rattle.state.specs.Exits.{inside_after}
use Rattle.sim_owed.specs.ServerLaws.{server_restarted}
use borrow.Author.Rules.{rules}
use Rattle.sim_owed.proofs.servers.restart_server.Goals as goal

pub server_of-x-requires : goal.server_of-x-requires
server_of-x-requires c = search (inside_after, server_restarted, rules)

pub restarted-next-requires : goal.restarted-next-requires
restarted-next-requires c = search (inside_after, server_restarted, rules)

pub set_server-requires : goal.set_server-requires
set_server-requires c = search (inside_after, server_restarted, rules)

pub start_server-requires : goal.start_server-requires
start_server-requires c = search (inside_after, server_restarted, rules)

pub returns : goal.returns
returns c = search (inside_after, server_restarted, rules)
