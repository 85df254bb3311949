-- Made by tools/uniform from proofs.txt, not by hand: 0d5a234188ab8bac
use Rattle.sim_outputs.specs.TimerLaws.{cancel_planned}
use borrow.Author.Rules.{rules}
use Rattle.sim_outputs.proofs.timers.cancel_plan.Goals as goal

pub returns : goal.returns
returns c = search (cancel_planned, rules)
