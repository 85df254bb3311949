-- Made by tools/uniform from proofs.txt, not by hand: 23f125a24f3134ac
use Rattle.state.specs.Exits.{inside_of, read_shut}
use Rattle.sim_reads_run.specs.Laws.{run_read}
use borrow.Author.Rules.{rules}
use Rattle.sim_reads_run.proofs.read_run_in.Goals as goal

pub run_no-requires : goal.run_no-requires
run_no-requires c = search (inside_of, read_shut, run_read, rules)

pub returns-then-refusal-gt0 : goal.returns-then-refusal-gt0
returns-then-refusal-gt0 c = search (inside_of, read_shut, run_read, rules)

pub run_numbers-requires : goal.run_numbers-requires
run_numbers-requires c = search (inside_of, read_shut, run_read, rules)

pub returns : goal.returns
returns c = search (inside_of, read_shut, run_read, rules)
