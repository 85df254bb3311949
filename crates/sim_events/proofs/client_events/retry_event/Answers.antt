-- Made by tools/uniform from proofs.txt, not by hand: e6c3745e907b669e
use Rattle.state.specs.Exits.{inside_after}
use Rattle.sim_outputs.specs.Laws.{passed_inside}
use Rattle.sim_events.specs.Kept.{retry_moved}
use borrow.Author.Rules.{rules}
use Rattle.sim_events.proofs.client_events.retry_event.Goals as goal

pub client_retry-requires : goal.client_retry-requires
client_retry-requires c = search (passed_inside, inside_after, retry_moved, rules)

pub close_phase-requires : goal.close_phase-requires
close_phase-requires c = search (passed_inside, inside_after, retry_moved, rules)

pub returns : goal.returns
returns c = search (passed_inside, inside_after, retry_moved, rules)
