-- Made by tools/uniform from proofs.txt, not by hand: 821e2b34cb7e4c39
use Rattle.state.specs.Exits.{inside_of, inside_after}
use borrow.Author.Rules.{rules}
use Rattle.area.proofs.header.events_set.Goals as goal

pub gate-g-requires : goal.gate-g-requires
gate-g-requires c = search (inside_of, inside_after, rules)

pub returns-then-g-gt0 : goal.returns-then-g-gt0
returns-then-g-gt0 c = search (inside_of, inside_after, rules)

pub set_events-requires : goal.set_events-requires
set_events-requires c = search (inside_of, inside_after, rules)

pub run_of-run-requires : goal.run_of-run-requires
run_of-run-requires c = search (inside_of, inside_after, rules)

pub accepted-requires : goal.accepted-requires
accepted-requires c = search (inside_of, inside_after, rules)

pub returns : goal.returns
returns c = search (inside_of, inside_after, rules)
