-- Made by tools/uniform from proofs.txt, not by hand: 4acc16889f54a9ff
use Rattle.sim_step.specs.StepLaws.{now_risen, now_stays}
use borrow.Author.Rules.{rules}
use Rattle.sim_step.proofs.raise_now.Goals as goal

pub run_of-run-requires : goal.run_of-run-requires
run_of-run-requires c = search (now_risen, now_stays, rules)

pub set_now-requires : goal.set_now-requires
set_now-requires c = search (now_risen, now_stays, rules)

pub returns-then-now-deadline : goal.returns-then-now-deadline
returns-then-now-deadline c = search (now_risen, now_stays, rules)

pub returns-else-now-deadline : goal.returns-else-now-deadline
returns-else-now-deadline c = search (now_risen, now_stays, rules)
