-- Made by tools/uniform from proofs.txt, not by hand: 00857660db301154
use Rattle.storage.specs.WaitingLaws.{pushes}
use borrow.Author.Rules.{rules}
use Rattle.storage.proofs.waiting.push_put.Goals as goal

pub returns : goal.returns
returns c = search (pushes, rules)
