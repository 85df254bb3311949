-- Made by tools/uniform from proofs.txt, not by hand: 0b4f020db6f89435
use Rattle.state.specs.Exits.{inside_of, inside_after}
use borrow.Author.Rules.{rules}
use Rattle.area.proofs.servers.keys_cleared.Goals as goal

pub gate-g-requires : goal.gate-g-requires
gate-g-requires c = search (inside_of, inside_after, rules)

pub returns-then-g-gt0 : goal.returns-then-g-gt0
returns-then-g-gt0 c = search (inside_of, inside_after, rules)

pub returns-then-f-lt2 : goal.returns-then-f-lt2
returns-then-f-lt2 c = search (inside_of, inside_after, rules)

pub forget-requires : goal.forget-requires
forget-requires c = search (inside_of, inside_after, rules)

pub has_pending-gone-requires : goal.has_pending-gone-requires
has_pending-gone-requires c = search (inside_of, inside_after, rules)

pub has_pending-still-requires : goal.has_pending-still-requires
has_pending-still-requires c = search (inside_of, inside_after, rules)

pub clear_pending-requires : goal.clear_pending-requires
clear_pending-requires c = search (inside_of, inside_after, rules)

pub accepted-requires : goal.accepted-requires
accepted-requires c = search (inside_of, inside_after, rules)

pub returns : goal.returns
returns c = search (inside_of, inside_after, rules)
