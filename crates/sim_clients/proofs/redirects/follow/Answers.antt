-- Made by tools/uniform from proofs.txt, not by hand: 4944cd2ceea54897
use Rattle.sim_outputs.specs.Laws.{passed_inside}
use Rattle.sim_clients.specs.RedirectLaws.{follow_later, follow_now}
use borrow.Author.Rules.{rules}
use Rattle.sim_clients.proofs.redirects.follow.Goals as goal

pub retry_later-requires : goal.retry_later-requires
retry_later-requires c = search (passed_inside, follow_later, follow_now, rules)

pub with_target-moved-requires : goal.with_target-moved-requires
with_target-moved-requires c = search (passed_inside, follow_later, follow_now, rules)

pub client_attempt-requires : goal.client_attempt-requires
client_attempt-requires c = search (passed_inside, follow_later, follow_now, rules)

pub returns-in-None : goal.returns-in-None
returns-in-None c = search (passed_inside, follow_later, follow_now, rules)

pub returns-in-Some : goal.returns-in-Some
returns-in-Some c = search (passed_inside, follow_later, follow_now, rules)
