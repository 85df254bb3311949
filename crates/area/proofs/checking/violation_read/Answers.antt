-- Made by tools/uniform from proofs.txt, not by hand: 722c5b3f59730df0
use Rattle.state.specs.Exits.{inside_of, inside_after}
use borrow.Author.Rules.{rules}
use Rattle.area.proofs.checking.violation_read.Goals as goal

pub gate-g-requires : goal.gate-g-requires
gate-g-requires c = search (inside_of, inside_after, rules)

pub returns-then-g-gt0 : goal.returns-then-g-gt0
returns-then-g-gt0 c = search (inside_of, inside_after, rules)

pub violation_of-requires : goal.violation_of-requires
violation_of-requires c = search (inside_of, inside_after, rules)

pub returns-in-None : goal.returns-in-None
returns-in-None c = search (inside_of, inside_after, rules)

pub returns-in-Some : goal.returns-in-Some
returns-in-Some c = search (inside_of, inside_after, rules)
