-- Made by tools/uniform from proofs.txt, not by hand: a71637f0f0fbea8c
use Rattle.sim_end.specs.Laws.{few_more, room_read}
use borrow.Author.Rules.{rules}
use Rattle.sim_end.proofs.end_room.Goals as goal

pub redirect_room-told-requires : goal.redirect_room-told-requires
redirect_room-told-requires c = search (few_more, room_read, rules)

pub owed_given-owed-requires : goal.owed_given-owed-requires
owed_given-owed-requires c = search (few_more, room_read, rules)

pub redirect_count-more-requires : goal.redirect_count-more-requires
redirect_count-more-requires c = search (few_more, room_read, rules)

pub close_fits-goes-requires : goal.close_fits-goes-requires
close_fits-goes-requires c = search (few_more, room_read, rules)

pub returns : goal.returns
returns c = search (few_more, room_read, rules)
