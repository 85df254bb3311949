-- Made by tools/uniform from proofs.txt, not by hand: 353eec2462a4af14
use Rattle.state.specs.Exits.{inside_after}
use Rattle.sim_outputs.specs.Laws.{passed_inside}
use Rattle.sim_events.specs.Kept.{redirect_moved}
use borrow.Author.Rules.{rules}
use Rattle.sim_events.proofs.client_events.redirect_event.Goals as goal

pub client_redirect-requires : goal.client_redirect-requires
client_redirect-requires c = search (passed_inside, inside_after, redirect_moved, rules)

pub close_phase-requires : goal.close_phase-requires
close_phase-requires c = search (passed_inside, inside_after, redirect_moved, rules)

pub returns : goal.returns
returns c = search (passed_inside, inside_after, redirect_moved, rules)
