-- Made by tools/uniform from proofs.txt, not by hand: 245261bd383f0aa1
use Rattle.storage.proofs.WritesLaws.{puts}
use borrow.Author.Rules.{rules}
use Rattle.storage.proofs.write.put.Goals as goal

pub returns-then-rows-m : goal.returns-then-rows-m
returns-then-rows-m c = search (puts, rules)

pub returns-in_default : goal.returns-in_default
returns-in_default c = search (puts, rules)

pub returns : goal.returns
returns c = search (puts, rules)
