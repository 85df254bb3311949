-- Made by tools/uniform from proofs.txt, not by hand: afe0d44bbc8d7a16
use Rattle.sim_owed.specs.ServerLaws.{restarts}
use borrow.Author.Rules.{rules}
use Rattle.sim_owed.proofs.servers.restarted.Goals as goal

pub sum64-incarnation-requires : goal.sum64-incarnation-requires
sum64-incarnation-requires c = search (restarts, rules)

pub sum64-election-requires : goal.sum64-election-requires
sum64-election-requires c = search (restarts, rules)

pub sum64-heartbeat-requires : goal.sum64-heartbeat-requires
sum64-heartbeat-requires c = search (restarts, rules)

pub returns : goal.returns
returns c = search (restarts, rules)
