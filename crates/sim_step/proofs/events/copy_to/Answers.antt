-- Made by tools/uniform from proofs.txt, not by hand: 36ee90ca6369d41f
use Rattle.sim_step.specs.EventLaws.{copied_not, copied_there}
use borrow.Author.Rules.{rules}
use Rattle.sim_step.proofs.events.copy_to.Goals as goal

pub overflow_sub-id : goal.overflow_sub-id
overflow_sub-id c = search (copied_not, copied_there, rules)

pub runs_at-requires : goal.runs_at-requires
runs_at-requires c = search (copied_not, copied_there, rules)

pub returns-then-not-runs_at : goal.returns-then-not-runs_at
returns-then-not-runs_at c = search (copied_not, copied_there, rules)

pub first_message-requires : goal.first_message-requires
first_message-requires c = search (copied_not, copied_there, rules)

pub returns : goal.returns
returns c = search (copied_not, copied_there, rules)
