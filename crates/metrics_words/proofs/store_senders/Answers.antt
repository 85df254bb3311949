-- Made by tools/uniform from proofs.txt, not by hand: e1ec1ab96809bf8f
use Rattle.metrics_words.specs.Laws.{writing}
use borrow.Author.Rules.{rules}
use Rattle.metrics_words.proofs.store_senders.Goals as goal

pub loop-k-init : goal.loop-k-init
loop-k-init c = search (writing, rules)

pub loop-k-preserved : goal.loop-k-preserved
loop-k-preserved c = search (writing, rules)

pub returns : goal.returns
returns c = search (writing, rules)
