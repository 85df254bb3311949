-- Made by tools/uniform from proofs.txt, not by hand: 8f3b46f9b9b3c494
use Rattle.sim_faults.specs.Laws.{restart_known, asked_crash, asked_next, asked_restart, asked_leader, asked_partition, asked_block, asked_unblock, asked_links, asked_loss, asked_duplication, asked_factor, asked_all}
use borrow.Author.Rules.{rules}
use Rattle.sim_faults.proofs.fault_fits.Goals as goal

pub restart_fits-requires : goal.restart_fits-requires
restart_fits-requires c = search (restart_known, asked_crash, asked_next, asked_restart, asked_leader, asked_partition, asked_block, asked_unblock, asked_links, asked_loss, asked_duplication, asked_factor, rules)

pub crash_leader_fits-requires : goal.crash_leader_fits-requires
crash_leader_fits-requires c = search (restart_known, asked_crash, asked_next, asked_restart, asked_leader, asked_partition, asked_block, asked_unblock, asked_links, asked_loss, asked_duplication, asked_factor, rules)

pub heal_fits-requires : goal.heal_fits-requires
heal_fits-requires c = search (restart_known, asked_crash, asked_next, asked_restart, asked_leader, asked_partition, asked_block, asked_unblock, asked_links, asked_loss, asked_duplication, asked_factor, rules)

pub returns-in-Crash : goal.returns-in-Crash
returns-in-Crash c = search (restart_known, asked_crash, asked_next, asked_restart, asked_leader, asked_partition, asked_block, asked_unblock, asked_links, asked_loss, asked_duplication, asked_factor, rules)

pub returns-in-CrashDuringNextInput : goal.returns-in-CrashDuringNextInput
returns-in-CrashDuringNextInput c = search (restart_known, asked_crash, asked_next, asked_restart, asked_leader, asked_partition, asked_block, asked_unblock, asked_links, asked_loss, asked_duplication, asked_factor, rules)

pub returns-in-Restart : goal.returns-in-Restart
returns-in-Restart c = search (restart_known, asked_crash, asked_next, asked_restart, asked_leader, asked_partition, asked_block, asked_unblock, asked_links, asked_loss, asked_duplication, asked_factor, rules)

pub returns-in-CrashLeader : goal.returns-in-CrashLeader
returns-in-CrashLeader c = search (restart_known, asked_crash, asked_next, asked_restart, asked_leader, asked_partition, asked_block, asked_unblock, asked_links, asked_loss, asked_duplication, asked_factor, rules)

pub returns-in-Partition : goal.returns-in-Partition
returns-in-Partition c = search (restart_known, asked_crash, asked_next, asked_restart, asked_leader, asked_partition, asked_block, asked_unblock, asked_links, asked_loss, asked_duplication, asked_factor, rules)

pub returns-in-Block : goal.returns-in-Block
returns-in-Block c = search (restart_known, asked_crash, asked_next, asked_restart, asked_leader, asked_partition, asked_block, asked_unblock, asked_links, asked_loss, asked_duplication, asked_factor, rules)

pub returns-in-Unblock : goal.returns-in-Unblock
returns-in-Unblock c = search (restart_known, asked_crash, asked_next, asked_restart, asked_leader, asked_partition, asked_block, asked_unblock, asked_links, asked_loss, asked_duplication, asked_factor, rules)

pub returns-in-HealLinks : goal.returns-in-HealLinks
returns-in-HealLinks c = search (restart_known, asked_crash, asked_next, asked_restart, asked_leader, asked_partition, asked_block, asked_unblock, asked_links, asked_loss, asked_duplication, asked_factor, rules)

pub returns-in-SetLoss : goal.returns-in-SetLoss
returns-in-SetLoss c = search (restart_known, asked_crash, asked_next, asked_restart, asked_leader, asked_partition, asked_block, asked_unblock, asked_links, asked_loss, asked_duplication, asked_factor, rules)

pub returns-in-SetDuplication : goal.returns-in-SetDuplication
returns-in-SetDuplication c = search (restart_known, asked_crash, asked_next, asked_restart, asked_leader, asked_partition, asked_block, asked_unblock, asked_links, asked_loss, asked_duplication, asked_factor, rules)

pub returns-in-SetDelayFactor : goal.returns-in-SetDelayFactor
returns-in-SetDelayFactor c = search (restart_known, asked_crash, asked_next, asked_restart, asked_leader, asked_partition, asked_block, asked_unblock, asked_links, asked_loss, asked_duplication, asked_factor, rules)

pub returns-in-HealAll : goal.returns-in-HealAll
returns-in-HealAll c = asked_all _ _ _ _ _ c.in-HealAll.is c.heal_fits.ensures
