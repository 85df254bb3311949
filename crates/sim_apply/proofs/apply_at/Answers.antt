-- Made by tools/uniform from proofs.txt, not by hand: 205070c8989a0aae
use Rattle.sim_apply.specs.ApplyLaws.{at_refused, at_full, at_done}
use borrow.Author.Rules.{rules}
use Rattle.sim_apply.proofs.apply_at.Goals as goal

pub apply_asked-asked-requires : goal.apply_asked-asked-requires
apply_asked-asked-requires c = search (at_refused, at_full, at_done, rules)

pub key_given-key-requires : goal.key_given-key-requires
key_given-key-requires c = search (at_refused, at_full, at_done, rules)

pub reply_room-room-requires : goal.reply_room-room-requires
reply_room-room-requires c = search (at_refused, at_full, at_done, rules)

pub returns-then-not-room : goal.returns-then-not-room
returns-then-not-room c = search (at_refused, at_full, at_done, rules)

pub apply_act-requires : goal.apply_act-requires
apply_act-requires c = record { inside = c.requires.inside; slot_lt_servers = c.requires.slot_lt_servers; index_bound = c.requires.index_bound; kind_bound = c.requires.kind_bound; asks = c.apply_asked-asked.ensures }

pub returns-in-Err : goal.returns-in-Err
returns-in-Err c = search (at_refused, at_full, at_done, rules)

pub returns-else-not-room : goal.returns-else-not-room
returns-else-not-room c = search (at_refused, at_full, at_done, rules)
