-- Made by tools/uniform from proofs.txt, not by hand: 658b3156530bf3ae
use Rattle.raft_log.specs.Laws.{holding}
use borrow.Author.Rules.{rules}
use Rattle.raft_log.proofs.holds.Goals as goal

pub returns-then-i-lt1 : goal.returns-then-i-lt1
returns-then-i-lt1 c = search (holding, rules)

pub returns-then-n-i : goal.returns-then-n-i
returns-then-n-i c = search (holding, rules)

pub returns-then-load-mark_of : goal.returns-then-load-mark_of
returns-then-load-mark_of c = search (holding, rules)

pub returns : goal.returns
returns c = search (holding, rules)
