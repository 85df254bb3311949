-- Made by tools/uniform from proofs.txt, not by hand: 1b95aae68786b1fc
use Rattle.sim_seal.specs.SealLaws.{kind_accepted, kind_named, kind_unnamed}
use borrow.Author.Rules.{rules}
use Rattle.sim_seal.proofs.verdict_kind.Goals as goal

pub returns-then-refusal-ne1 : goal.returns-then-refusal-ne1
returns-then-refusal-ne1 c = search (kind_accepted, kind_named, kind_unnamed, rules)

pub returns-then-present-eq1 : goal.returns-then-present-eq1
returns-then-present-eq1 c = search (kind_accepted, kind_named, kind_unnamed, rules)

pub returns : goal.returns
returns c = search (kind_accepted, kind_named, kind_unnamed, rules)
