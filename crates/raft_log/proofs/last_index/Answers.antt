-- Made by tools/uniform from proofs.txt, not by hand: 7566bab0788e0c57
use Rattle.raft_log.specs.Laws.{seeks}
use borrow.Author.Rules.{rules}
use Rattle.raft_log.proofs.last_index.Goals as goal

pub loop-i-init : goal.loop-i-init
loop-i-init c = search (seeks, rules)

pub returns-then-load-gt0 : goal.returns-then-load-gt0
returns-then-load-gt0 c = search (seeks, rules)

pub loop-i-preserved : goal.loop-i-preserved
loop-i-preserved c = search (seeks, rules)

pub returns : goal.returns
returns c = search (seeks, rules)
