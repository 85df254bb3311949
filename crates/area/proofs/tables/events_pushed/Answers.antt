-- Made by tools/uniform from proofs.txt, not by hand: 4df9c409e4be308c
use Rattle.state.specs.Exits.{inside_of, inside_after}
use borrow.Author.Rules.{rules}
use Rattle.area.proofs.tables.events_pushed.Goals as goal

pub gate-g-requires : goal.gate-g-requires
gate-g-requires c = search (inside_of, inside_after, rules)

pub returns-then-g-gt0 : goal.returns-then-g-gt0
returns-then-g-gt0 c = search (inside_of, inside_after, rules)

pub returns-then-limits-lt2 : goal.returns-then-limits-lt2
returns-then-limits-lt2 c = search (inside_of, inside_after, rules)

pub two_pushed-requires : goal.two_pushed-requires
two_pushed-requires c = search (inside_of, inside_after, rules)

pub returns : goal.returns
returns c = search (inside_of, inside_after, rules)
