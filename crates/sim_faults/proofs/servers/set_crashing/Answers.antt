-- Made by tools/uniform from proofs.txt, not by hand: 7d202f48d5d6ade9
use Rattle.sim_faults.specs.Laws.{crashing_set}
use borrow.Author.Rules.{rules}
use Rattle.sim_faults.proofs.servers.set_crashing.Goals as goal

pub server_of-x-requires : goal.server_of-x-requires
server_of-x-requires c = search (crashing_set, rules)

pub crashing-next-requires : goal.crashing-next-requires
crashing-next-requires c = search (crashing_set, rules)

pub set_server-requires : goal.set_server-requires
set_server-requires c = search (crashing_set, rules)

pub returns : goal.returns
returns c = search (crashing_set, rules)
