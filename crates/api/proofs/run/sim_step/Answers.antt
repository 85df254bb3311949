-- Made by tools/uniform from proofs.txt, not by hand: 141a527cd902cd34
use Rattle.api.specs.CalledLaws.{step_called}
use borrow.Author.Rules.{rules}
use Rattle.api.proofs.run.sim_step.Goals as goal

pub gate-g-requires : goal.gate-g-requires
gate-g-requires c = search (step_called, rules)

pub step_in-requires : goal.step_in-requires
step_in-requires c = search (step_called, rules)

pub returns : goal.returns
returns c = search (step_called, rules)
