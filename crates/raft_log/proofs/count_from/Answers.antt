-- Made by tools/uniform from proofs.txt, not by hand: 8deabc7129c631d5
use Rattle.raft_log.specs.Laws.{counts}
use borrow.Author.Rules.{rules}
use Rattle.raft_log.proofs.count_from.Goals as goal

pub loop-i-init : goal.loop-i-init
loop-i-init c = search (counts, rules)

pub loop-i-preserved : goal.loop-i-preserved
loop-i-preserved c = search (counts, rules)

pub returns : goal.returns
returns c = search (counts, rules)
