-- Made by tools/uniform from proofs.txt, not by hand: 76110ca70c100b07
use Rattle.sim_step.specs.EventLaws.{next_inside, message_none, message_server, message_room_lem, message_copied}
use borrow.Author.Rules.{rules}
use Rattle.sim_step.proofs.events.copy_message.Goals as goal

pub from-w-requires : goal.from-w-requires
from-w-requires c = search (next_inside, message_none, message_copied, rules)

pub returns-then-w-ne1 : goal.returns-then-w-ne1
returns-then-w-ne1 c = search (next_inside, message_none, message_copied, rules)

pub copy_to-requires : goal.copy_to-requires
copy_to-requires c = record { inside = next_inside _ _ _ c.requires.next; server_id = message_server _ _ _ _ c.requires.next c.from-w.ensures c.if-w-ne1.false; size_le_message = message_room_lem _ _ _ _ c.requires.next c.requires.message_in_bounds }

pub returns : goal.returns
returns c = search (next_inside, message_none, message_copied, rules)
