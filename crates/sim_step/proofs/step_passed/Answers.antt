-- Made by tools/uniform from proofs.txt, not by hand: a74022d98cac6dc0
use Rattle.sim_outputs.specs.Laws.{passed_inside}
use Rattle.sim_step.specs.StepLaws.{asked_of, next_of, step_no, step_rested}
use borrow.Author.Rules.{rules}
use Rattle.sim_step.proofs.step_passed.Goals as goal

pub step_code-code-requires : goal.step_code-code-requires
step_code-code-requires c = search (passed_inside, step_no, step_rested, rules)

pub stepped_no-requires : goal.stepped_no-requires
stepped_no-requires c = search (passed_inside, step_no, step_rested, rules)

pub returns-then-code-gt0 : goal.returns-then-code-gt0
returns-then-code-gt0 c = search (passed_inside, step_no, step_rested, rules)

pub first_event-next-requires : goal.first_event-next-requires
first_event-next-requires c = search (passed_inside, step_no, step_rested, rules)

pub raise_now-requires : goal.raise_now-requires
raise_now-requires c = search (passed_inside, step_no, step_rested, rules)

pub no_input-requires : goal.no_input-requires
no_input-requires c = search (passed_inside, step_no, step_rested, rules)

pub stepped-requires : goal.stepped-requires
stepped-requires c = search (passed_inside, step_no, step_rested, rules)

pub step_next-requires : goal.step_next-requires
step_next-requires c = record { next = next_of _ _ _ _ c.requires c.first_event-next.ensures c.in-Some.is; asked = asked_of _ _ _ _ _ c.requires c.step_code-code.ensures c.if-code-gt0.false }

pub returns-in-None : goal.returns-in-None
returns-in-None c = search (passed_inside, step_no, step_rested, rules)

pub returns-in-Some : goal.returns-in-Some
returns-in-Some c = search (passed_inside, step_no, step_rested, rules)
