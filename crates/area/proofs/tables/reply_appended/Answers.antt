-- Made by tools/uniform from proofs.txt, not by hand: 3b8a5edff016af8a
use Rattle.state.specs.Exits.{inside_of, inside_after}
use borrow.Author.Rules.{rules}
use Rattle.area.proofs.tables.reply_appended.Goals as goal

pub gate-g-requires : goal.gate-g-requires
gate-g-requires c = search (inside_of, inside_after, rules)

pub returns-then-g-gt0 : goal.returns-then-g-gt0
returns-then-g-gt0 c = search (inside_of, inside_after, rules)

pub append_reply-requires : goal.append_reply-requires
append_reply-requires c = search (inside_of, inside_after, rules)

pub reply_of-requires : goal.reply_of-requires
reply_of-requires c = search (inside_of, inside_after, rules)

pub reply_of-requires-2 : goal.reply_of-requires-2
reply_of-requires-2 c = search (inside_of, inside_after, rules)

pub reply_count-requires : goal.reply_count-requires
reply_count-requires c = search (inside_of, inside_after, rules)

pub accepted-requires : goal.accepted-requires
accepted-requires c = search (inside_of, inside_after, rules)

pub returns : goal.returns
returns c = search (inside_of, inside_after, rules)
