-- Made by tools/uniform from proofs.txt, not by hand: 050681ea5b7367be
use Rattle.sim_clients.specs.EventLaws.{awaits_told}
use borrow.Author.Rules.{rules}
use Rattle.sim_clients.proofs.awaits.Goals as goal

pub is_waiting-waits-requires : goal.is_waiting-waits-requires
is_waiting-waits-requires c = search (awaits_told, rules)

pub returns : goal.returns
returns c = search (awaits_told, rules)
