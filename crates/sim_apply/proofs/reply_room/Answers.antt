-- Made by tools/uniform from proofs.txt, not by hand: 04996a387f8b2784
use Rattle.sim_apply.specs.ReplyLaws.{room_yes, room_no}
use borrow.Author.Rules.{rules}
use Rattle.sim_apply.proofs.reply_room.Goals as goal

pub reply_due-requires : goal.reply_due-requires
reply_due-requires c = search (room_yes, room_no, rules)

pub tell_room-requires : goal.tell_room-requires
tell_room-requires c = search (room_yes, room_no, rules)

pub returns-then-reply_due : goal.returns-then-reply_due
returns-then-reply_due c = search (room_yes, room_no, rules)

pub returns : goal.returns
returns c = search (room_yes, room_no, rules)
