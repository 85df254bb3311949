-- Made by tools/uniform from proofs.txt, not by hand: cf1b48082f6881d5
use Rattle.state.specs.Exits.{inside_of, inside_after}
use borrow.Author.Rules.{rules}
use Rattle.area.proofs.servers.server_set.Goals as goal

pub gate-g-requires : goal.gate-g-requires
gate-g-requires c = search (inside_of, inside_after, rules)

pub returns-then-g-gt0 : goal.returns-then-g-gt0
returns-then-g-gt0 c = search (inside_of, inside_after, rules)

pub returns-then-f-lt2 : goal.returns-then-f-lt2
returns-then-f-lt2 c = search (inside_of, inside_after, rules)

pub set_server-requires : goal.set_server-requires
set_server-requires c = search (inside_of, inside_after, rules)

pub server_of-after-requires : goal.server_of-after-requires
server_of-after-requires c = search (inside_of, inside_after, rules)

pub accepted-requires : goal.accepted-requires
accepted-requires c = search (inside_of, inside_after, rules)

pub returns : goal.returns
returns c = search (inside_of, inside_after, rules)
