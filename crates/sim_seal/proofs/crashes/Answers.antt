-- Made by tools/uniform from proofs.txt, not by hand: 95d5f66456955963
use Rattle.sim_seal.specs.SealLaws.{crashes_read}
use borrow.Author.Rules.{rules}
use Rattle.sim_seal.proofs.crashes.Goals as goal

pub server_of-x-requires : goal.server_of-x-requires
server_of-x-requires c = search (crashes_read, rules)

pub returns : goal.returns
returns c = search (crashes_read, rules)
