-- Made by tools/uniform from proofs.txt, not by hand: e8a0e21ca69d8ba3
use Rattle.checks_durability.specs.MissingLaws.{rising}
use borrow.Author.Rules.{rules}
use Rattle.checks_durability.proofs.acknowledged.highest.Goals as goal

pub loop-k-init : goal.loop-k-init
loop-k-init c = search (rising, rules)

pub read-requires : goal.read-requires
read-requires c = search (rising, rules)

pub max-best-requires : goal.max-best-requires
max-best-requires c = search (rising, rules)

pub loop-k-smaller : goal.loop-k-smaller
loop-k-smaller c = search (rising, rules)

pub loop-k-preserved : goal.loop-k-preserved
loop-k-preserved c = search (rising, rules)

pub returns : goal.returns
returns c = search (rising, rules)
