-- Made by tools/uniform from proofs.txt, not by hand: 04a60cffcac7318a
use Rattle.state.specs.Exits.{inside_of, inside_after}
use borrow.Author.Rules.{rules}
use Rattle.area.proofs.servers.writes_set.Goals as goal

pub gate-g-requires : goal.gate-g-requires
gate-g-requires c = search (inside_of, inside_after, rules)

pub returns-then-g-gt0 : goal.returns-then-g-gt0
returns-then-g-gt0 c = search (inside_of, inside_after, rules)

pub returns-then-f-lt2 : goal.returns-then-f-lt2
returns-then-f-lt2 c = search (inside_of, inside_after, rules)

pub returns-then-limits-lt2 : goal.returns-then-limits-lt2
returns-then-limits-lt2 c = search (inside_of, inside_after, rules)

pub returns-then-limits-lt3 : goal.returns-then-limits-lt3
returns-then-limits-lt3 c = search (inside_of, inside_after, rules)

pub writes_made-requires : goal.writes_made-requires
writes_made-requires c = search (inside_of, inside_after, rules)

pub returns : goal.returns
returns c = search (inside_of, inside_after, rules)
