-- Made by tools/uniform from proofs.txt, not by hand: b8f6bfa58eb70b7b
use Rattle.sim_clients.specs.RedirectLaws.{backoff_read}
use borrow.Author.Rules.{rules}
use Rattle.sim_clients.proofs.redirects.backoff_at.Goals as goal

pub settings_of-settings-requires : goal.settings_of-settings-requires
settings_of-settings-requires c = search (backoff_read, rules)

pub sum64-requires : goal.sum64-requires
sum64-requires c = search (backoff_read, rules)

pub returns : goal.returns
returns c = search (backoff_read, rules)
