-- Made by tools/uniform from proofs.txt, not by hand: cb8aef5e6f16dd83
use Rattle.words.specs.Runs.{copy}
use borrow.Author.Rules.{rules}
use Rattle.words.proofs.copy_from.Goals as goal

pub loop-k-init : goal.loop-k-init
loop-k-init c = search (copy, rules)

pub bounds-src-k : goal.bounds-src-k
bounds-src-k c = search (copy, rules)

pub overflow_add-dst : goal.overflow_add-dst
overflow_add-dst c = search (copy, rules)

pub bounds-dst-at : goal.bounds-dst-at
bounds-dst-at c = search (copy, rules)

pub loop-k-smaller : goal.loop-k-smaller
loop-k-smaller c = search (copy, rules)

pub loop-k-preserved : goal.loop-k-preserved
loop-k-preserved c = search (copy, rules)

pub returns : goal.returns
returns c = search (copy, rules)
