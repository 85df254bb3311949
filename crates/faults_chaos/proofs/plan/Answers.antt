-- Made by tools/uniform from proofs.txt, not by hand: 014ecc8bc7b894e2
use native.Mathlib.Omega.{arith}
use Rattle.std.proofs.lemmas.Result.{err_from_is_err_and}
use Rattle.faults_chaos.specs.Plans.{planning, not_reached, planning_next, plan_no_second, plan_no_room, entries_there, entries_absent}
use borrow.Author.Rules.{rules}
use Rattle.faults_chaos.proofs.plan.Goals as goal

pub loop-config-init : goal.loop-config-init
loop-config-init c = search (planning, rules)

pub returns-then-room-count : goal.returns-then-room-count
returns-then-room-count c = search (planning, rules)

pub returns-then-le : goal.returns-then-le
returns-then-le c = search (planning, rules)

pub returns-in_err-ok_or : goal.returns-in_err-ok_or
returns-in_err-ok_or c = let p = err_from_is_err_and c.from_residual.result c.from_residual.ensures.1 in let q = entries_absent _ _ _ _ c.ok_or.ensures.value c.in_err-ok_or.was in rw (p.1, p.2, q.1) (plan_no_second _ _ _ _ _ _ _ _ _ c.loop-config.invariant _ c.uniform-gap.ensures.result_value _ (not_reached c.le.ensures c.if-le.false) c.one_fault-fault.ensures.result_value q.0)

pub returns-then-room-count-2 : goal.returns-then-room-count-2
returns-then-room-count-2 c = plan_no_room _ _ _ _ _ _ _ _ _ c.loop-config.invariant _ c.uniform-gap.ensures.result_value _ (not_reached c.le.ensures c.if-le.false) c.one_fault-fault.ensures.result_value _ (entries_there _ _ _ _ c.ok_or.ensures.value c.in_ok-ok_or.was) (omega arith)

pub loop-config-preserved : goal.loop-config-preserved
loop-config-preserved c = planning_next _ _ _ _ _ _ _ _ _ c.loop-config.invariant _ c.uniform-gap.ensures.result_value _ (not_reached c.le.ensures c.if-le.false) c.one_fault-fault.ensures.result_value _ (entries_there _ _ _ _ c.ok_or.ensures.value c.in_ok-ok_or.was) _ c.count-placed.ensures.0 c.count-placed.ensures.1 c.if-room-count-2.false c.one_fault-fault.ensures.draws_bound.1
