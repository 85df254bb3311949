-- Made by tools/uniform from proofs.txt, not by hand: b631f87847d099a5
use Rattle.sim_clients.specs.EventLaws.{begins}
use borrow.Author.Rules.{rules}
use Rattle.sim_clients.proofs.begin_command.Goals as goal

pub sum64-next-requires : goal.sum64-next-requires
sum64-next-requires c = search (begins, rules)

pub returns : goal.returns
returns c = search (begins, rules)
