-- Made by tools/uniform from proofs.txt, not by hand: fe364058af2a50ff
use Rattle.state.specs.Exits.{inside_of, inside_after}
use borrow.Author.Rules.{rules}
use Rattle.area.proofs.servers.leader_read.Goals as goal

pub gate-g-requires : goal.gate-g-requires
gate-g-requires c = search (inside_of, inside_after, rules)

pub returns-then-g-gt0 : goal.returns-then-g-gt0
returns-then-g-gt0 c = search (inside_of, inside_after, rules)

pub leader_of-leader-requires : goal.leader_of-leader-requires
leader_of-leader-requires c = search (inside_of, inside_after, rules)

pub returns-in-None : goal.returns-in-None
returns-in-None c = search (inside_of, inside_after, rules)

pub returns-in-Some : goal.returns-in-Some
returns-in-Some c = search (inside_of, inside_after, rules)
