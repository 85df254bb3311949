-- Made by tools/uniform from proofs.txt, not by hand: 90656374670bab79
use Rattle.storage.specs.WaitingLaws.{pushes}
use borrow.Author.Rules.{rules}
use Rattle.storage.proofs.waiting.push_hard_state.Goals as goal

pub returns-in-None : goal.returns-in-None
returns-in-None c = search (pushes, rules)

pub returns-in-Some : goal.returns-in-Some
returns-in-Some c = search (pushes, rules)
