-- Made by tools/uniform from proofs.txt, not by hand: f3d19de6af39bc5b
use Rattle.state.specs.Exits.{inside_after}
use Rattle.sim_outputs.specs.Laws.{passed_inside}
use Rattle.sim_events.specs.Kept.{timeout_moved}
use borrow.Author.Rules.{rules}
use Rattle.sim_events.proofs.client_events.timeout_event.Goals as goal

pub client_timeout-requires : goal.client_timeout-requires
client_timeout-requires c = search (passed_inside, inside_after, timeout_moved, rules)

pub close_phase-requires : goal.close_phase-requires
close_phase-requires c = search (passed_inside, inside_after, timeout_moved, rules)

pub returns : goal.returns
returns c = search (passed_inside, inside_after, timeout_moved, rules)
