-- Made by tools/uniform from proofs.txt, not by hand: 9b211c896cc3f9fb
use Rattle.state.specs.Exits.{inside_of, inside_after}
use borrow.Author.Rules.{rules}
use Rattle.area.proofs.header.gaps_set.Goals as goal

pub gate-g-requires : goal.gate-g-requires
gate-g-requires c = search (inside_of, inside_after, rules)

pub returns-then-g-gt0 : goal.returns-then-g-gt0
returns-then-g-gt0 c = search (inside_of, inside_after, rules)

pub set_max_log_gaps-requires : goal.set_max_log_gaps-requires
set_max_log_gaps-requires c = search (inside_of, inside_after, rules)

pub run_of-run-requires : goal.run_of-run-requires
run_of-run-requires c = search (inside_of, inside_after, rules)

pub accepted-requires : goal.accepted-requires
accepted-requires c = search (inside_of, inside_after, rules)

pub returns : goal.returns
returns c = search (inside_of, inside_after, rules)
