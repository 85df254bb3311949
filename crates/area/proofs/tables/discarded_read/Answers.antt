-- Made by tools/uniform from proofs.txt, not by hand: 0bc8580df09cfa33
use Rattle.state.specs.Exits.{inside_of, inside_after}
use borrow.Author.Rules.{rules}
use Rattle.area.proofs.tables.discarded_read.Goals as goal

pub gate-g-requires : goal.gate-g-requires
gate-g-requires c = search (inside_of, inside_after, rules)

pub returns-then-g-gt0 : goal.returns-then-g-gt0
returns-then-g-gt0 c = search (inside_of, inside_after, rules)

pub discarded_of-sum-requires : goal.discarded_of-sum-requires
discarded_of-sum-requires c = search (inside_of, inside_after, rules)

pub returns : goal.returns
returns c = search (inside_of, inside_after, rules)
