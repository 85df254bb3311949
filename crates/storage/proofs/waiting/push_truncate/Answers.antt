-- Made by tools/uniform from proofs.txt, not by hand: df47566665af4701
use Rattle.storage.specs.WaitingLaws.{pushes}
use borrow.Author.Rules.{rules}
use Rattle.storage.proofs.waiting.push_truncate.Goals as goal

pub returns : goal.returns
returns c = search (pushes, rules)
