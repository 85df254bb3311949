-- Made by tools/uniform from proofs.txt, not by hand: 99371bd859109740
use Rattle.state.specs.Exits.{inside_of, inside_after}
use borrow.Author.Rules.{rules}
use Rattle.area.proofs.tables.sends_pushed.Goals as goal

pub gate-g-requires : goal.gate-g-requires
gate-g-requires c = search (inside_of, inside_after, rules)

pub returns-then-g-gt0 : goal.returns-then-g-gt0
returns-then-g-gt0 c = search (inside_of, inside_after, rules)

pub push_first_sends-requires : goal.push_first_sends-requires
push_first_sends-requires c = search (inside_of, inside_after, rules)

pub queue_count-requires : goal.queue_count-requires
queue_count-requires c = search (inside_of, inside_after, rules)

pub accepted-requires : goal.accepted-requires
accepted-requires c = search (inside_of, inside_after, rules)

pub returns : goal.returns
returns c = search (inside_of, inside_after, rules)
