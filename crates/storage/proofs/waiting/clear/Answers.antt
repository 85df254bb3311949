-- Made by tools/uniform from proofs.txt, not by hand: 03aae0d984a7c729
use Rattle.storage.specs.WaitingLaws.{cleared_writes}
use borrow.Author.Rules.{rules}
use Rattle.storage.proofs.waiting.clear.Goals as goal

pub returns : goal.returns
returns c = search (cleared_writes, rules)
