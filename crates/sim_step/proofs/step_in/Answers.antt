-- Made by tools/uniform from proofs.txt, not by hand: 9deaae993a56fb05
use Rattle.sim_outputs.specs.Laws.{passed_of}
use Rattle.sim_step.specs.StepLaws.{made_shut, made_done}
use borrow.Author.Rules.{rules}
use Rattle.sim_step.proofs.step_in.Goals as goal

pub stepped_no-requires : goal.stepped_no-requires
stepped_no-requires c = search (passed_of, made_shut, made_done, rules)

pub returns-then-refusal-gt0 : goal.returns-then-refusal-gt0
returns-then-refusal-gt0 c = search (passed_of, made_shut, made_done, rules)

pub step_passed-requires : goal.step_passed-requires
step_passed-requires c = search (passed_of, made_shut, made_done, rules)

pub returns : goal.returns
returns c = search (passed_of, made_shut, made_done, rules)
