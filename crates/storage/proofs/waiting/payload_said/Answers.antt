-- Made by tools/uniform from proofs.txt, not by hand: 516e2430700ee36e
use Rattle.storage.specs.WaitingLaws.{payloads}
use borrow.Author.Rules.{rules}
use Rattle.storage.proofs.waiting.payload_said.Goals as goal

pub returns-then-mark-lt4 : goal.returns-then-mark-lt4
returns-then-mark-lt4 c = search (payloads, rules)

pub returns-then-length-p : goal.returns-then-length-p
returns-then-length-p c = search (payloads, rules)

pub returns-else-length-p : goal.returns-else-length-p
returns-else-length-p c = search (payloads, rules)
