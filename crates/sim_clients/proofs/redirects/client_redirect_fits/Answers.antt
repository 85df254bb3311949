-- Made by tools/uniform from proofs.txt, not by hand: c3647d32501a4d8b
use Rattle.sim_outputs.specs.Laws.{passed_inside}
use Rattle.sim_clients.specs.RedirectLaws.{redirect_old, redirect_known, redirect_later}
use borrow.Author.Rules.{rules}
use Rattle.sim_clients.proofs.redirects.client_redirect_fits.Goals as goal

pub client_of-client-requires : goal.client_of-client-requires
client_of-client-requires c = search (passed_inside, redirect_old, redirect_known, redirect_later, rules)

pub awaits-requires : goal.awaits-requires
awaits-requires c = search (passed_inside, redirect_old, redirect_known, redirect_later, rules)

pub returns-then-not-awaits : goal.returns-then-not-awaits
returns-then-not-awaits c = search (passed_inside, redirect_old, redirect_known, redirect_later, rules)

pub known_slot-slot-requires : goal.known_slot-slot-requires
known_slot-slot-requires c = search (passed_inside, redirect_old, redirect_known, redirect_later, rules)

pub is_known-requires : goal.is_known-requires
is_known-requires c = search (passed_inside, redirect_old, redirect_known, redirect_later, rules)

pub attempt_fits-requires : goal.attempt_fits-requires
attempt_fits-requires c = search (passed_inside, redirect_old, redirect_known, redirect_later, rules)

pub returns-then-is_known : goal.returns-then-is_known
returns-then-is_known c = search (passed_inside, redirect_old, redirect_known, redirect_later, rules)

pub backoff_at-end-requires : goal.backoff_at-end-requires
backoff_at-end-requires c = search (passed_inside, redirect_old, redirect_known, redirect_later, rules)

pub returns : goal.returns
returns c = search (passed_inside, redirect_old, redirect_known, redirect_later, rules)
