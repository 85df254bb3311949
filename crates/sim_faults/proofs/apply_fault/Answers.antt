-- Made by tools/uniform from proofs.txt, not by hand: 1feb621b850a720f
use Rattle.sim_faults.specs.Laws.{crash_known, next_known, restart_known, done_crash, done_next, done_restart, done_leader, done_partition, done_block, done_unblock, done_links, done_loss, done_duplication, done_factor, done_all}
use borrow.Author.Rules.{rules}
use Rattle.sim_faults.proofs.apply_fault.Goals as goal

pub crash-requires : goal.crash-requires
crash-requires c = search (crash_known, next_known, restart_known, done_crash, done_next, done_restart, done_leader, done_partition, done_block, done_unblock, done_links, done_loss, done_duplication, done_factor, done_all, rules)

pub crash_during_next_input-requires : goal.crash_during_next_input-requires
crash_during_next_input-requires c = search (crash_known, next_known, restart_known, done_crash, done_next, done_restart, done_leader, done_partition, done_block, done_unblock, done_links, done_loss, done_duplication, done_factor, done_all, rules)

pub restart-requires : goal.restart-requires
restart-requires c = search (crash_known, next_known, restart_known, done_crash, done_next, done_restart, done_leader, done_partition, done_block, done_unblock, done_links, done_loss, done_duplication, done_factor, done_all, rules)

pub crash_leader-requires : goal.crash_leader-requires
crash_leader-requires c = search (crash_known, next_known, restart_known, done_crash, done_next, done_restart, done_leader, done_partition, done_block, done_unblock, done_links, done_loss, done_duplication, done_factor, done_all, rules)

pub network_fault-requires : goal.network_fault-requires
network_fault-requires c = search (crash_known, next_known, restart_known, done_crash, done_next, done_restart, done_leader, done_partition, done_block, done_unblock, done_links, done_loss, done_duplication, done_factor, done_all, rules)

pub network_fault-requires-in-Block : goal.network_fault-requires-in-Block
network_fault-requires-in-Block c = search (crash_known, next_known, restart_known, done_crash, done_next, done_restart, done_leader, done_partition, done_block, done_unblock, done_links, done_loss, done_duplication, done_factor, done_all, rules)

pub network_fault-requires-in-Unblock : goal.network_fault-requires-in-Unblock
network_fault-requires-in-Unblock c = search (crash_known, next_known, restart_known, done_crash, done_next, done_restart, done_leader, done_partition, done_block, done_unblock, done_links, done_loss, done_duplication, done_factor, done_all, rules)

pub network_fault-requires-in-HealLinks : goal.network_fault-requires-in-HealLinks
network_fault-requires-in-HealLinks c = search (crash_known, next_known, restart_known, done_crash, done_next, done_restart, done_leader, done_partition, done_block, done_unblock, done_links, done_loss, done_duplication, done_factor, done_all, rules)

pub network_fault-requires-in-SetLoss : goal.network_fault-requires-in-SetLoss
network_fault-requires-in-SetLoss c = search (crash_known, next_known, restart_known, done_crash, done_next, done_restart, done_leader, done_partition, done_block, done_unblock, done_links, done_loss, done_duplication, done_factor, done_all, rules)

pub network_fault-requires-in-SetDuplication : goal.network_fault-requires-in-SetDuplication
network_fault-requires-in-SetDuplication c = search (crash_known, next_known, restart_known, done_crash, done_next, done_restart, done_leader, done_partition, done_block, done_unblock, done_links, done_loss, done_duplication, done_factor, done_all, rules)

pub network_fault-requires-in-SetDelayFactor : goal.network_fault-requires-in-SetDelayFactor
network_fault-requires-in-SetDelayFactor c = search (crash_known, next_known, restart_known, done_crash, done_next, done_restart, done_leader, done_partition, done_block, done_unblock, done_links, done_loss, done_duplication, done_factor, done_all, rules)

pub heal_all-requires : goal.heal_all-requires
heal_all-requires c = search (crash_known, next_known, restart_known, done_crash, done_next, done_restart, done_leader, done_partition, done_block, done_unblock, done_links, done_loss, done_duplication, done_factor, done_all, rules)

pub returns-in-Crash : goal.returns-in-Crash
returns-in-Crash c = search (crash_known, next_known, restart_known, done_crash, done_next, done_restart, done_leader, done_partition, done_block, done_unblock, done_links, done_loss, done_duplication, done_factor, done_all, rules)

pub returns-in-CrashDuringNextInput : goal.returns-in-CrashDuringNextInput
returns-in-CrashDuringNextInput c = search (crash_known, next_known, restart_known, done_crash, done_next, done_restart, done_leader, done_partition, done_block, done_unblock, done_links, done_loss, done_duplication, done_factor, done_all, rules)

pub returns-in-Restart : goal.returns-in-Restart
returns-in-Restart c = search (crash_known, next_known, restart_known, done_crash, done_next, done_restart, done_leader, done_partition, done_block, done_unblock, done_links, done_loss, done_duplication, done_factor, done_all, rules)

pub returns-in-CrashLeader : goal.returns-in-CrashLeader
returns-in-CrashLeader c = search (crash_known, next_known, restart_known, done_crash, done_next, done_restart, done_leader, done_partition, done_block, done_unblock, done_links, done_loss, done_duplication, done_factor, done_all, rules)

pub returns-in-Partition : goal.returns-in-Partition
returns-in-Partition c = search (crash_known, next_known, restart_known, done_crash, done_next, done_restart, done_leader, done_partition, done_block, done_unblock, done_links, done_loss, done_duplication, done_factor, done_all, rules)

pub returns-in-Block : goal.returns-in-Block
returns-in-Block c = search (crash_known, next_known, restart_known, done_crash, done_next, done_restart, done_leader, done_partition, done_block, done_unblock, done_links, done_loss, done_duplication, done_factor, done_all, rules)

pub returns-in-Unblock : goal.returns-in-Unblock
returns-in-Unblock c = search (crash_known, next_known, restart_known, done_crash, done_next, done_restart, done_leader, done_partition, done_block, done_unblock, done_links, done_loss, done_duplication, done_factor, done_all, rules)

pub returns-in-HealLinks : goal.returns-in-HealLinks
returns-in-HealLinks c = search (crash_known, next_known, restart_known, done_crash, done_next, done_restart, done_leader, done_partition, done_block, done_unblock, done_links, done_loss, done_duplication, done_factor, done_all, rules)

pub returns-in-SetLoss : goal.returns-in-SetLoss
returns-in-SetLoss c = search (crash_known, next_known, restart_known, done_crash, done_next, done_restart, done_leader, done_partition, done_block, done_unblock, done_links, done_loss, done_duplication, done_factor, done_all, rules)

pub returns-in-SetDuplication : goal.returns-in-SetDuplication
returns-in-SetDuplication c = search (crash_known, next_known, restart_known, done_crash, done_next, done_restart, done_leader, done_partition, done_block, done_unblock, done_links, done_loss, done_duplication, done_factor, done_all, rules)

pub returns-in-SetDelayFactor : goal.returns-in-SetDelayFactor
returns-in-SetDelayFactor c = search (crash_known, next_known, restart_known, done_crash, done_next, done_restart, done_leader, done_partition, done_block, done_unblock, done_links, done_loss, done_duplication, done_factor, done_all, rules)

pub returns-in-HealAll : goal.returns-in-HealAll
returns-in-HealAll c = search (crash_known, next_known, restart_known, done_crash, done_next, done_restart, done_leader, done_partition, done_block, done_unblock, done_links, done_loss, done_duplication, done_factor, done_all, rules)
