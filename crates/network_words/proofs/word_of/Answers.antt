-- Made by tools/uniform from proofs.txt, not by hand: 78051e0a2445ee05
use Rattle.network_words.specs.LinkLaws.{gathered}
use borrow.Author.Rules.{rules}
use Rattle.network_words.proofs.word_of.Goals as goal

pub loop-k-init : goal.loop-k-init
loop-k-init c = search (gathered, rules)

pub overflow_step-k : goal.overflow_step-k
overflow_step-k c = search (gathered, rules)

pub bounds-links-k : goal.bounds-links-k
bounds-links-k c = search (gathered, rules)

pub from-requires : goal.from-requires
from-requires c = search (gathered, rules)

pub overflow_mul-word : goal.overflow_mul-word
overflow_mul-word c = search (gathered, rules)

pub overflow_add-word : goal.overflow_add-word
overflow_add-word c = search (gathered, rules)

pub loop-k-smaller : goal.loop-k-smaller
loop-k-smaller c = search (gathered, rules)

pub loop-k-preserved : goal.loop-k-preserved
loop-k-preserved c = search (gathered, rules)

pub returns : goal.returns
returns c = search (gathered, rules)
