-- Made by tools/uniform from proofs.txt, not by hand: a5fd85aa0ddffe62
use Rattle.state.specs.Exits.{inside_after}
use Rattle.sim_events.specs.Kept.{reply_moved}
use borrow.Author.Rules.{rules}
use Rattle.sim_events.proofs.client_events.reply_event.Goals as goal

pub client_reply-requires : goal.client_reply-requires
client_reply-requires c = search (inside_after, reply_moved, rules)

pub close_phase-requires : goal.close_phase-requires
close_phase-requires c = search (inside_after, reply_moved, rules)

pub returns : goal.returns
returns c = search (inside_after, reply_moved, rules)
