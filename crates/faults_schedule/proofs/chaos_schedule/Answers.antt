-- Made by tools/uniform from proofs.txt, not by hand: ab8cd74076f7bc9d
use Rattle.std.proofs.lemmas.Result.{err_from_is_err_and}
use Rattle.faults_schedule.proofs.WriteLaws.{asked}
use Rattle.faults_schedule.specs.AnswerLaws.{refuses, accepts, makes}
use Rattle.faults_schedule.proofs.chaos_schedule.Goals as goal

pub returns-in_err-plan : goal.returns-in_err-plan
returns-in_err-plan c = let p = err_from_is_err_and c.from_residual.result c.from_residual.ensures.1 in rw (p.1, p.2) (refuses _ _ _ _ _ c.chaos_plan.ensures c.in_err-plan.was)

pub invariant_of-write : goal.invariant_of-write
invariant_of-write c = let q = asked _ _ _ _ (accepts _ _ _ c.chaos_plan.ensures c.in_ok-plan.was) in record { some = q.some; most = q.most; known = q.known }

pub write-requires : goal.write-requires
write-requires c = accepts _ _ _ c.chaos_plan.ensures c.in_ok-plan.was

pub returns : goal.returns
returns c = makes _ _ _ c.chaos_plan.ensures c.in_ok-plan.was _ _ _ c.write.ensures
