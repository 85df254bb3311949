-- Made by tools/uniform from proofs.txt, not by hand: 1d017691100dfe91
use Rattle.raft_log.specs.Laws.{removed_from}
use borrow.Author.Rules.{rules}
use Rattle.raft_log.proofs.removed.Goals as goal

pub returns : goal.returns
returns c = search (removed_from, rules)
