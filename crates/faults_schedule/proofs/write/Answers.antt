-- Made by tools/uniform from proofs.txt, not by hand: 5a2ee61e8126cb81
use Rattle.faults_chaos.specs.Plans.{reached}
use Rattle.faults_schedule.proofs.WriteLaws.{writing, written}
use borrow.Author.Rules.{rules}
use Rattle.faults_schedule.proofs.write.Goals as goal

pub overflow_mul-gaps : goal.overflow_mul-gaps
overflow_mul-gaps c = search (writing, rules)

pub loop-config-init : goal.loop-config-init
loop-config-init c = search (writing, rules)

pub uniform-gap-requires : goal.uniform-gap-requires
uniform-gap-requires c = search (writing, rules)

pub overflow_add-start : goal.overflow_add-start
overflow_add-start c = search (writing, rules)

pub le-requires : goal.le-requires
le-requires c = search (writing, rules)

pub place-requires : goal.place-requires
place-requires c = search (writing, rules)

pub returns-then-le : goal.returns-then-le
returns-then-le c = written _ _ _ _ _ _ _ _ _ _ c.requires c.loop-config.invariant _ c.uniform-gap.ensures.result_value (reached c.le.ensures c.if-le.true) c.place.ensures

pub one_fault-fault-requires : goal.one_fault-fault-requires
one_fault-fault-requires c = search (writing, rules)

pub unwrap-requires : goal.unwrap-requires
unwrap-requires c = search (writing, rules)

pub push_entries-count-requires : goal.push_entries-count-requires
push_entries-count-requires c = search (writing, rules)

pub loop-config-smaller : goal.loop-config-smaller
loop-config-smaller c = search (writing, rules)

pub loop-config-preserved : goal.loop-config-preserved
loop-config-preserved c = search (writing, rules)
