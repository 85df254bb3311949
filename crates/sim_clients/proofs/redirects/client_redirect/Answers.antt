-- Made by tools/uniform from proofs.txt, not by hand: 499d19c1590c0e11
use Rattle.sim_outputs.specs.Laws.{passed_inside}
use Rattle.sim_clients.specs.RedirectLaws.{redirect_kept, redirect_done}
use borrow.Author.Rules.{rules}
use Rattle.sim_clients.proofs.redirects.client_redirect.Goals as goal

pub client_of-client-requires : goal.client_of-client-requires
client_of-client-requires c = search (passed_inside, redirect_kept, redirect_done, rules)

pub awaits-requires : goal.awaits-requires
awaits-requires c = search (passed_inside, redirect_kept, redirect_done, rules)

pub returns-then-not-awaits : goal.returns-then-not-awaits
returns-then-not-awaits c = search (passed_inside, redirect_kept, redirect_done, rules)

pub known_slot-slot-requires : goal.known_slot-slot-requires
known_slot-slot-requires c = search (passed_inside, redirect_kept, redirect_done, rules)

pub follow-requires : goal.follow-requires
follow-requires c = search (passed_inside, redirect_kept, redirect_done, rules)

pub returns : goal.returns
returns c = search (passed_inside, redirect_kept, redirect_done, rules)
