-- Made by tools/uniform from proofs.txt, not by hand: 2aaee24153da9654
use Rattle.sim_clients.specs.RedirectLaws.{known_none, known_low, known_high, known_yes}
use borrow.Author.Rules.{rules}
use Rattle.sim_clients.proofs.redirects.known_slot.Goals as goal

pub returns-then-id-lt1 : goal.returns-then-id-lt1
returns-then-id-lt1 c = search (known_none, known_low, known_high, known_yes, rules)

pub returns-then-servers-id : goal.returns-then-servers-id
returns-then-servers-id c = search (known_none, known_low, known_high, known_yes, rules)

pub returns-in-None : goal.returns-in-None
returns-in-None c = search (known_none, known_low, known_high, known_yes, rules)

pub returns-else-servers-id : goal.returns-else-servers-id
returns-else-servers-id c = search (known_none, known_low, known_high, known_yes, rules)
