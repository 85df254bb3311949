-- Made by tools/uniform from proofs.txt, not by hand: dffb84c8e1cc400a
use Rattle.state.specs.Exits.{inside_of, read_shut}
use Rattle.sim_reads_run.specs.Laws.{confirmation_read_lem}
use borrow.Author.Rules.{rules}
use Rattle.sim_reads_run.proofs.read_confirmation_in.Goals as goal

pub confirmation_no-requires : goal.confirmation_no-requires
confirmation_no-requires c = search (inside_of, read_shut, confirmation_read_lem, rules)

pub returns-then-refusal-gt0 : goal.returns-then-refusal-gt0
returns-then-refusal-gt0 c = search (inside_of, read_shut, confirmation_read_lem, rules)

pub confirmation_of-confirmation-requires : goal.confirmation_of-confirmation-requires
confirmation_of-confirmation-requires c = search (inside_of, read_shut, confirmation_read_lem, rules)

pub confirmation_yes-requires : goal.confirmation_yes-requires
confirmation_yes-requires c = search (inside_of, read_shut, confirmation_read_lem, rules)

pub returns : goal.returns
returns c = search (inside_of, read_shut, confirmation_read_lem, rules)
