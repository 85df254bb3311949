-- Made by tools/uniform from proofs.txt, not by hand: d8a673da972b96fb
use Rattle.raft_log.specs.Laws.{reading, read_here}
use borrow.Author.Rules.{rules}
use Rattle.raft_log.proofs.read_entry.Goals as goal

pub returns-then-i-lt1 : goal.returns-then-i-lt1
returns-then-i-lt1 c = search (reading, rules)

pub returns-then-n-i : goal.returns-then-n-i
returns-then-n-i c = search (reading, rules)

pub returns-then-p-k : goal.returns-then-p-k
returns-then-p-k c = search (reading, rules)

pub returns : goal.returns
returns c = read_here _ _ _ _ _ c.if-i-lt1.false c.if-n-i.false _ c.start_of-at.ensures.0 _ c.entry-held.ensures _ c.length_of-k.ensures c.if-p-k.false _ c.copy_from.ensures
