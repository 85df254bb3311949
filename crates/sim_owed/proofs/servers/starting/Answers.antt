-- Made by tools/uniform from proofs.txt, not by hand: 88a3ce8492ce7a58
use Rattle.sim_owed.specs.ServerLaws.{starting_is}
use borrow.Author.Rules.{rules}
use Rattle.sim_owed.proofs.servers.starting.Goals as goal

pub kind-kind-requires : goal.kind-kind-requires
kind-kind-requires c = search (starting_is, rules)

pub place-place-requires : goal.place-place-requires
place-place-requires c = search (starting_is, rules)

pub returns : goal.returns
returns c = search (starting_is, rules)
