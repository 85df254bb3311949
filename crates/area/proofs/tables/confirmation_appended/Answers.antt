-- Made by tools/uniform from proofs.txt, not by hand: c2f0f42043a4f9f7
use Rattle.state.specs.Exits.{inside_of, inside_after}
use borrow.Author.Rules.{rules}
use Rattle.area.proofs.tables.confirmation_appended.Goals as goal

pub gate-g-requires : goal.gate-g-requires
gate-g-requires c = search (inside_of, inside_after, rules)

pub returns-then-g-gt0 : goal.returns-then-g-gt0
returns-then-g-gt0 c = search (inside_of, inside_after, rules)

pub append_confirmation-requires : goal.append_confirmation-requires
append_confirmation-requires c = search (inside_of, inside_after, rules)

pub confirmation_of-requires : goal.confirmation_of-requires
confirmation_of-requires c = search (inside_of, inside_after, rules)

pub confirmation_count-requires : goal.confirmation_count-requires
confirmation_count-requires c = search (inside_of, inside_after, rules)

pub accepted-requires : goal.accepted-requires
accepted-requires c = search (inside_of, inside_after, rules)

pub returns : goal.returns
returns c = search (inside_of, inside_after, rules)
