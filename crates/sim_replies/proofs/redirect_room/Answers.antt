-- Made by tools/uniform from proofs.txt, not by hand: 54d8946a69a78919
use Rattle.sim_replies.specs.RedirectLaws.{room_yes, room_no}
use borrow.Author.Rules.{rules}
use Rattle.sim_replies.proofs.redirect_room.Goals as goal

pub refuses_client-requires : goal.refuses_client-requires
refuses_client-requires c = search (room_yes, room_no, rules)

pub tell_room-requires : goal.tell_room-requires
tell_room-requires c = search (room_yes, room_no, rules)

pub returns-then-refuses_client : goal.returns-then-refuses_client
returns-then-refuses_client c = search (room_yes, room_no, rules)

pub returns : goal.returns
returns c = search (room_yes, room_no, rules)
