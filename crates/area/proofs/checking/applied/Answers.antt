-- Made by tools/uniform from proofs.txt, not by hand: fe23370d112f79f2
use Rattle.state.specs.Exits.{inside_of, inside_after}
use borrow.Author.Rules.{rules}
use Rattle.area.proofs.checking.applied.Goals as goal

pub gate-g-requires : goal.gate-g-requires
gate-g-requires c = search (inside_of, inside_after, rules)

pub returns-then-g-gt0 : goal.returns-then-g-gt0
returns-then-g-gt0 c = search (inside_of, inside_after, rules)

pub returns-then-f-lt1 : goal.returns-then-f-lt1
returns-then-f-lt1 c = search (inside_of, inside_after, rules)

pub returns-then-limits-lt3 : goal.returns-then-limits-lt3
returns-then-limits-lt3 c = search (inside_of, inside_after, rules)

pub first_applied-requires : goal.first_applied-requires
first_applied-requires c = search (inside_of, inside_after, rules)

pub returns : goal.returns
returns c = search (inside_of, inside_after, rules)
