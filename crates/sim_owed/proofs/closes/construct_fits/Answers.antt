-- Made by tools/uniform from proofs.txt, not by hand: bf0643cd1d822b3f
use Rattle.sim_owed.specs.CloseLaws.{construct_early, construct_late}
use borrow.Author.Rules.{rules}
use Rattle.sim_owed.proofs.closes.construct_fits.Goals as goal

pub returns-then-place-f : goal.returns-then-place-f
returns-then-place-f c = search (construct_early, construct_late, rules)

pub overflow_add-more : goal.overflow_add-more
overflow_add-more c = search (construct_early, construct_late, rules)

pub queue_room-requires : goal.queue_room-requires
queue_room-requires c = search (construct_early, construct_late, rules)

pub returns : goal.returns
returns c = search (construct_early, construct_late, rules)
