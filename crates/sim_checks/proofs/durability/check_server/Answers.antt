-- Made by tools/uniform from proofs.txt, not by hand: 49d1a97811621f39
use Rattle.sim_checks.specs.DurabilityLaws.{server_checked_lem}
use borrow.Author.Rules.{rules}
use Rattle.sim_checks.proofs.durability.check_server.Goals as goal

pub applied_of-up_to-requires : goal.applied_of-up_to-requires
applied_of-up_to-requires c = search (server_checked_lem, rules)

pub overflow_add-server : goal.overflow_add-server
overflow_add-server c = search (server_checked_lem, rules)

pub applied_up_to_act-requires : goal.applied_up_to_act-requires
applied_up_to_act-requires c = search (server_checked_lem, rules)

pub returns : goal.returns
returns c = search (server_checked_lem, rules)
