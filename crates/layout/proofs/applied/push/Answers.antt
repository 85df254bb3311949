-- Made by tools/uniform from proofs.txt, not by hand: 704ebfbf6c0fd567
use Rattle.layout.specs.AppliedLaws.{pushed_kind}
use borrow.Author.Rules.{rules}
use Rattle.layout.proofs.applied.push.Goals as goal

pub returns : goal.returns
returns c = search (pushed_kind, rules)
