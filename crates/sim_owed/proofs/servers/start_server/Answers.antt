-- Made by tools/uniform from proofs.txt, not by hand: 6b92fe139bc6da82
use Rattle.sim_owed.specs.ServerLaws.{started}
use borrow.Author.Rules.{rules}
use Rattle.sim_owed.proofs.servers.start_server.Goals as goal

pub server_of-x-requires : goal.server_of-x-requires
server_of-x-requires c = search (started, rules)

pub run_of-run-requires : goal.run_of-run-requires
run_of-run-requires c = search (started, rules)

pub starting-input-requires : goal.starting-input-requires
starting-input-requires c = search (started, rules)

pub set_open-requires : goal.set_open-requires
set_open-requires c = search (started, rules)

pub start_numbers-requires : goal.start_numbers-requires
start_numbers-requires c = search (started, rules)

pub returns : goal.returns
returns c = search (started, rules)
