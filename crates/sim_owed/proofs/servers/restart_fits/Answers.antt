-- Made by tools/uniform from proofs.txt, not by hand: 28d0e0fb692b6625
use Rattle.sim_owed.specs.ServerLaws.{restart_asked}
use borrow.Author.Rules.{rules}
use Rattle.sim_owed.proofs.servers.restart_fits.Goals as goal

pub server_of-x-requires : goal.server_of-x-requires
server_of-x-requires c = search (restart_asked, rules)

pub sum64-election-requires : goal.sum64-election-requires
sum64-election-requires c = search (restart_asked, rules)

pub sum64-heartbeat-requires : goal.sum64-heartbeat-requires
sum64-heartbeat-requires c = search (restart_asked, rules)

pub returns : goal.returns
returns c = search (restart_asked, rules)
