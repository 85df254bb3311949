-- Made by tools/uniform from proofs.txt, not by hand: f8fcea5bdb13b89d
use Rattle.words.specs.Lift.{stored}
use borrow.Author.Rules.{rules}
use Rattle.words.proofs.store_all.Goals as goal

pub loop-k-init : goal.loop-k-init
loop-k-init c = search (stored, rules)

pub loop-k-preserved : goal.loop-k-preserved
loop-k-preserved c = search (stored, rules)
