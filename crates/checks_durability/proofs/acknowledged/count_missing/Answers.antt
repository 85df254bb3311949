-- Made by tools/uniform from proofs.txt, not by hand: a40862d75c7d2a6b
use Rattle.checks_durability.specs.MissingLaws.{counting}
use borrow.Author.Rules.{rules}
use Rattle.checks_durability.proofs.acknowledged.count_missing.Goals as goal

pub loop-k-init : goal.loop-k-init
loop-k-init c = search (counting, rules)

pub reply_missing-requires : goal.reply_missing-requires
reply_missing-requires c = search (counting, rules)

pub one_if-count-requires : goal.one_if-count-requires
one_if-count-requires c = search (counting, rules)

pub overflow_add-count : goal.overflow_add-count
overflow_add-count c = search (counting, rules)

pub loop-k-smaller : goal.loop-k-smaller
loop-k-smaller c = search (counting, rules)

pub loop-k-preserved : goal.loop-k-preserved
loop-k-preserved c = search (counting, rules)

pub returns : goal.returns
returns c = search (counting, rules)
