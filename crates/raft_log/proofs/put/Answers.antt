-- Made by tools/uniform from proofs.txt, not by hand: a5c86c3fa4dfa4b4
use Rattle.raft_log.specs.Laws.{put_made}
use borrow.Author.Rules.{rules}
use Rattle.raft_log.proofs.put.Goals as goal

pub returns : goal.returns
returns c = search (put_made, rules)
