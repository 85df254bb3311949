-- Made by tools/uniform from proofs.txt, not by hand: 422716ba3f127864
use Rattle.sim_events.specs.Laws.{arrive_lost, arrive_asked}
use borrow.Author.Rules.{rules}
use Rattle.sim_events.proofs.arrivals.arrive_fits.Goals as goal

pub runs_at-requires : goal.runs_at-requires
runs_at-requires c = search (arrive_lost, arrive_asked, rules)

pub returns-then-not-runs_at : goal.returns-then-not-runs_at
returns-then-not-runs_at c = search (arrive_lost, arrive_asked, rules)

pub overflow_cast-key : goal.overflow_cast-key
overflow_cast-key c = search (arrive_lost, arrive_asked, rules)

pub pending_room-requires : goal.pending_room-requires
pending_room-requires c = search (arrive_lost, arrive_asked, rules)

pub returns : goal.returns
returns c = search (arrive_lost, arrive_asked, rules)
