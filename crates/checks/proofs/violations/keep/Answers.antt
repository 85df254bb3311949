-- Made by tools/uniform from proofs.txt, not by hand: 360da43a6f873d7c
use Rattle.checks.specs.ViolationLaws.{keeping}
use borrow.Author.Rules.{rules}
use Rattle.checks.proofs.violations.keep.Goals as goal

pub returns-then-not-due : goal.returns-then-not-due
returns-then-not-due c = search (keeping, rules)

pub returns : goal.returns
returns c = search (keeping, rules)
