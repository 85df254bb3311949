-- Made by tools/uniform from proofs.txt, not by hand: 1d72b7d03d2a4d9e
use Rattle.sim_faults.specs.Laws.{aiming, after_crash, after_next, after_restart, after_leader, after_partition, after_block, after_unblock, after_links, after_loss, after_duplication, after_factor, after_all}
use borrow.Author.Rules.{rules}
use Rattle.sim_faults.proofs.links.network_after.Goals as goal

pub partition-requires : goal.partition-requires
partition-requires c = search (aiming, after_crash, after_next, after_restart, after_leader, after_partition, after_unblock, after_links, after_loss, after_duplication, after_factor, after_all, rules)

pub invariant_of-block : goal.invariant_of-block
invariant_of-block c = search (aiming, after_crash, after_next, after_restart, after_leader, after_partition, after_unblock, after_links, after_loss, after_duplication, after_factor, after_all, rules)

pub block-requires : goal.block-requires
block-requires c = search (aiming, after_crash, after_next, after_restart, after_leader, after_partition, after_unblock, after_links, after_loss, after_duplication, after_factor, after_all, rules)

pub invariant_of-unblock : goal.invariant_of-unblock
invariant_of-unblock c = search (aiming, after_crash, after_next, after_restart, after_leader, after_partition, after_unblock, after_links, after_loss, after_duplication, after_factor, after_all, rules)

pub unblock-requires : goal.unblock-requires
unblock-requires c = search (aiming, after_crash, after_next, after_restart, after_leader, after_partition, after_unblock, after_links, after_loss, after_duplication, after_factor, after_all, rules)

pub heal_links-requires : goal.heal_links-requires
heal_links-requires c = search (aiming, after_crash, after_next, after_restart, after_leader, after_partition, after_unblock, after_links, after_loss, after_duplication, after_factor, after_all, rules)

pub set_loss-requires : goal.set_loss-requires
set_loss-requires c = search (aiming, after_crash, after_next, after_restart, after_leader, after_partition, after_unblock, after_links, after_loss, after_duplication, after_factor, after_all, rules)

pub set_duplication-requires : goal.set_duplication-requires
set_duplication-requires c = search (aiming, after_crash, after_next, after_restart, after_leader, after_partition, after_unblock, after_links, after_loss, after_duplication, after_factor, after_all, rules)

pub set_delay_factor-requires : goal.set_delay_factor-requires
set_delay_factor-requires c = search (aiming, after_crash, after_next, after_restart, after_leader, after_partition, after_unblock, after_links, after_loss, after_duplication, after_factor, after_all, rules)

pub heal_all-requires : goal.heal_all-requires
heal_all-requires c = search (aiming, after_crash, after_next, after_restart, after_leader, after_partition, after_unblock, after_links, after_loss, after_duplication, after_factor, after_all, rules)

pub returns-in-Crash : goal.returns-in-Crash
returns-in-Crash c = search (aiming, after_crash, after_next, after_restart, after_leader, after_partition, after_unblock, after_links, after_loss, after_duplication, after_factor, after_all, rules)

pub returns-in-CrashDuringNextInput : goal.returns-in-CrashDuringNextInput
returns-in-CrashDuringNextInput c = search (aiming, after_crash, after_next, after_restart, after_leader, after_partition, after_unblock, after_links, after_loss, after_duplication, after_factor, after_all, rules)

pub returns-in-Restart : goal.returns-in-Restart
returns-in-Restart c = search (aiming, after_crash, after_next, after_restart, after_leader, after_partition, after_unblock, after_links, after_loss, after_duplication, after_factor, after_all, rules)

pub returns-in-CrashLeader : goal.returns-in-CrashLeader
returns-in-CrashLeader c = search (aiming, after_crash, after_next, after_restart, after_leader, after_partition, after_unblock, after_links, after_loss, after_duplication, after_factor, after_all, rules)

pub returns-in-Partition : goal.returns-in-Partition
returns-in-Partition c = search (aiming, after_crash, after_next, after_restart, after_leader, after_partition, after_unblock, after_links, after_loss, after_duplication, after_factor, after_all, rules)

pub returns-in-Block : goal.returns-in-Block
returns-in-Block c = after_block _ _ _ _ _ c.in-Block.is c.block.ensures

pub returns-in-Unblock : goal.returns-in-Unblock
returns-in-Unblock c = search (aiming, after_crash, after_next, after_restart, after_leader, after_partition, after_unblock, after_links, after_loss, after_duplication, after_factor, after_all, rules)

pub returns-in-HealLinks : goal.returns-in-HealLinks
returns-in-HealLinks c = search (aiming, after_crash, after_next, after_restart, after_leader, after_partition, after_unblock, after_links, after_loss, after_duplication, after_factor, after_all, rules)

pub returns-in-SetLoss : goal.returns-in-SetLoss
returns-in-SetLoss c = search (aiming, after_crash, after_next, after_restart, after_leader, after_partition, after_unblock, after_links, after_loss, after_duplication, after_factor, after_all, rules)

pub returns-in-SetDuplication : goal.returns-in-SetDuplication
returns-in-SetDuplication c = search (aiming, after_crash, after_next, after_restart, after_leader, after_partition, after_unblock, after_links, after_loss, after_duplication, after_factor, after_all, rules)

pub returns-in-SetDelayFactor : goal.returns-in-SetDelayFactor
returns-in-SetDelayFactor c = search (aiming, after_crash, after_next, after_restart, after_leader, after_partition, after_unblock, after_links, after_loss, after_duplication, after_factor, after_all, rules)

pub returns-in-HealAll : goal.returns-in-HealAll
returns-in-HealAll c = search (aiming, after_crash, after_next, after_restart, after_leader, after_partition, after_unblock, after_links, after_loss, after_duplication, after_factor, after_all, rules)
