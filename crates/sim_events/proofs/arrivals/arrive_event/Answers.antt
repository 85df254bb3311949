-- Made by tools/uniform from proofs.txt, not by hand: 2cac3909bb0dd891
use Rattle.state.specs.Exits.{inside_after}
use Rattle.sim_events.specs.Laws.{arrive_gone, arrive_opened}
use borrow.Author.Rules.{rules}
use Rattle.sim_events.proofs.arrivals.arrive_event.Goals as goal

pub runs_at-requires : goal.runs_at-requires
runs_at-requires c = search (inside_after, arrive_gone, arrive_opened, rules)

pub close_phase-requires : goal.close_phase-requires
close_phase-requires c = search (inside_after, arrive_gone, arrive_opened, rules)

pub returns-then-not-runs_at : goal.returns-then-not-runs_at
returns-then-not-runs_at c = search (inside_after, arrive_gone, arrive_opened, rules)

pub overflow_cast-key : goal.overflow_cast-key
overflow_cast-key c = search (inside_after, arrive_gone, arrive_opened, rules)

pub register-requires : goal.register-requires
register-requires c = search (inside_after, arrive_gone, arrive_opened, rules)

pub open_proposal-requires : goal.open_proposal-requires
open_proposal-requires c = search (inside_after, arrive_gone, arrive_opened, rules)

pub overflow_add-slot : goal.overflow_add-slot
overflow_add-slot c = search (inside_after, arrive_gone, arrive_opened, rules)

pub proposal_input-requires : goal.proposal_input-requires
proposal_input-requires c = search (inside_after, arrive_gone, arrive_opened, rules)

pub returns : goal.returns
returns c = search (inside_after, arrive_gone, arrive_opened, rules)
