-- Made by tools/uniform from proofs.txt, not by hand: 30b5eebbde362506
use Rattle.sim_step.specs.StepLaws.{fitting_next, fitting_inside, fitting_event, passed_popped, step_taken}
use borrow.Author.Rules.{rules}
use Rattle.sim_step.proofs.take_step.Goals as goal

pub copy_message-requires : goal.copy_message-requires
copy_message-requires c = search (fitting_next, fitting_inside, fitting_event, passed_popped, step_taken, rules)

pub pop_event-requires : goal.pop_event-requires
pop_event-requires c = search (fitting_next, fitting_inside, fitting_event, passed_popped, step_taken, rules)

pub process-requires : goal.process-requires
process-requires c = search (fitting_next, fitting_inside, fitting_event, passed_popped, step_taken, rules)

pub returns : goal.returns
returns c = search (fitting_next, fitting_inside, fitting_event, passed_popped, step_taken, rules)
