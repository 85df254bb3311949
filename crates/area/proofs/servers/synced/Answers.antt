-- Made by tools/uniform from proofs.txt, not by hand: 7c4d13ae91a7794e
use Rattle.state.specs.Exits.{inside_of, inside_after}
use borrow.Author.Rules.{rules}
use Rattle.area.proofs.servers.synced.Goals as goal

pub gate-g-requires : goal.gate-g-requires
gate-g-requires c = search (inside_of, inside_after, rules)

pub returns-then-g-gt0 : goal.returns-then-g-gt0
returns-then-g-gt0 c = search (inside_of, inside_after, rules)

pub returns-then-f-lt2 : goal.returns-then-f-lt2
returns-then-f-lt2 c = search (inside_of, inside_after, rules)

pub unsynced_of-before-requires : goal.unsynced_of-before-requires
unsynced_of-before-requires c = search (inside_of, inside_after, rules)

pub sync-told-requires : goal.sync-told-requires
sync-told-requires c = search (inside_of, inside_after, rules)

pub storage_of-after-requires : goal.storage_of-after-requires
storage_of-after-requires c = search (inside_of, inside_after, rules)

pub accepted-requires : goal.accepted-requires
accepted-requires c = search (inside_of, inside_after, rules)

pub returns : goal.returns
returns c = search (inside_of, inside_after, rules)
