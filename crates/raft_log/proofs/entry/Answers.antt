-- Made by tools/uniform from proofs.txt, not by hand: 071478d5294fef58
use Rattle.raft_log.specs.Laws.{entries}
use borrow.Author.Rules.{rules}
use Rattle.raft_log.proofs.entry.Goals as goal

pub returns-then-i-lt1 : goal.returns-then-i-lt1
returns-then-i-lt1 c = search (entries, rules)

pub returns-then-n-i : goal.returns-then-n-i
returns-then-n-i c = search (entries, rules)

pub returns : goal.returns
returns c = search (entries, rules)
