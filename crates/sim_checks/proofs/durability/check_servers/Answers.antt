-- Made by tools/uniform from proofs.txt, not by hand: 319ad5769ae30a69
use Rattle.sim_checks.specs.DurabilityLaws.{servers_first, servers_turn, servers_last}
use borrow.Author.Rules.{rules}
use Rattle.sim_checks.proofs.durability.check_servers.Goals as goal

pub loop-k-init : goal.loop-k-init
loop-k-init c = search (servers_first, servers_turn, servers_last, rules)

pub check_server-requires : goal.check_server-requires
check_server-requires c = search (servers_first, servers_turn, servers_last, rules)

pub loop-k-smaller : goal.loop-k-smaller
loop-k-smaller c = search (servers_first, servers_turn, servers_last, rules)

pub loop-k-preserved : goal.loop-k-preserved
loop-k-preserved c = search (servers_first, servers_turn, servers_last, rules)

pub returns : goal.returns
returns c = search (servers_first, servers_turn, servers_last, rules)
