-- Made by tools/uniform from proofs.txt, not by hand: cffed08f0f116027
use Rattle.checks_durability.specs.AcknowledgedLaws.{encodes}
use borrow.Author.Rules.{rules}
use Rattle.checks_durability.proofs.acknowledged.encode.Goals as goal

pub returns : goal.returns
returns c = search (encodes, rules)
