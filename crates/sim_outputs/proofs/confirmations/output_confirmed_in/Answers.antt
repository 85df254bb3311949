-- Made by tools/uniform from proofs.txt, not by hand: a2cb6d46b3e55693
use Rattle.state.specs.Exits.{inside_of, call_shut}
use Rattle.sim_outputs.specs.ConfirmationLaws.{confirmed_no, confirmed_done}
use borrow.Author.Rules.{rules}
use Rattle.sim_outputs.proofs.confirmations.output_confirmed_in.Goals as goal

pub returns-then-refusal-gt0 : goal.returns-then-refusal-gt0
returns-then-refusal-gt0 c = search (inside_of, call_shut, confirmed_no, confirmed_done, rules)

pub returns-then-code-gt0 : goal.returns-then-code-gt0
returns-then-code-gt0 c = search (inside_of, call_shut, confirmed_no, confirmed_done, rules)

pub append_confirmation-requires : goal.append_confirmation-requires
append_confirmation-requires c = search (inside_of, call_shut, confirmed_no, confirmed_done, rules)

pub returns : goal.returns
returns c = search (inside_of, call_shut, confirmed_no, confirmed_done, rules)
