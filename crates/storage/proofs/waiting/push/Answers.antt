-- Made by tools/uniform from proofs.txt, not by hand: 401b646dfc1ef346
use Rattle.storage.specs.WaitingLaws.{pushed}
use borrow.Author.Rules.{rules}
use Rattle.storage.proofs.waiting.push.Goals as goal

pub returns : goal.returns
returns c = search (pushed, rules)
