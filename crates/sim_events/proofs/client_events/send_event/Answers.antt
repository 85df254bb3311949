-- Made by tools/uniform from proofs.txt, not by hand: 60ac0ce01c22731f
use Rattle.state.specs.Exits.{inside_after}
use Rattle.sim_outputs.specs.Laws.{passed_inside}
use Rattle.sim_events.specs.Kept.{send_moved}
use borrow.Author.Rules.{rules}
use Rattle.sim_events.proofs.client_events.send_event.Goals as goal

pub client_send-requires : goal.client_send-requires
client_send-requires c = search (passed_inside, inside_after, send_moved, rules)

pub close_phase-requires : goal.close_phase-requires
close_phase-requires c = search (passed_inside, inside_after, send_moved, rules)

pub returns : goal.returns
returns c = search (passed_inside, inside_after, send_moved, rules)
