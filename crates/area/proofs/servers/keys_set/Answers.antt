-- Made by tools/uniform from proofs.txt, not by hand: 4f32d1dc020ea1c0
use Rattle.state.specs.Exits.{inside_of, inside_after}
use borrow.Author.Rules.{rules}
use Rattle.area.proofs.servers.keys_set.Goals as goal

pub gate-g-requires : goal.gate-g-requires
gate-g-requires c = search (inside_of, inside_after, rules)

pub returns-then-g-gt0 : goal.returns-then-g-gt0
returns-then-g-gt0 c = search (inside_of, inside_after, rules)

pub returns-then-f-lt2 : goal.returns-then-f-lt2
returns-then-f-lt2 c = search (inside_of, inside_after, rules)

pub keys_registered-requires : goal.keys_registered-requires
keys_registered-requires c = search (inside_of, inside_after, rules)

pub returns : goal.returns
returns c = search (inside_of, inside_after, rules)
