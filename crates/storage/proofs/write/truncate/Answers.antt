-- Made by tools/uniform from proofs.txt, not by hand: 086e02b15f9e4f27
use Rattle.storage.proofs.WritesLaws.{truncates}
use borrow.Author.Rules.{rules}
use Rattle.storage.proofs.write.truncate.Goals as goal

pub returns-then-rows-m : goal.returns-then-rows-m
returns-then-rows-m c = search (truncates, rules)

pub returns-in_default : goal.returns-in_default
returns-in_default c = search (truncates, rules)

pub push_truncate-requires : goal.push_truncate-requires
push_truncate-requires c = search (truncates, rules)

pub returns : goal.returns
returns c = search (truncates, rules)
