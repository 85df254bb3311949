-- Made by tools/uniform from proofs.txt, not by hand: b27bfae9f53ece02
use Rattle.sim_attempt.specs.Acts.{timeout_read}
use borrow.Author.Rules.{rules}
use Rattle.sim_attempt.proofs.timeout_at.Goals as goal

pub settings_of-settings-requires : goal.settings_of-settings-requires
settings_of-settings-requires c = search (timeout_read, rules)

pub sum64-requires : goal.sum64-requires
sum64-requires c = search (timeout_read, rules)

pub returns : goal.returns
returns c = search (timeout_read, rules)
