-- Made by tools/uniform from proofs.txt, not by hand: d7764c9f9d113706
use Rattle.raft_log.specs.Laws.{gapped}
use borrow.Author.Rules.{rules}
use Rattle.raft_log.proofs.gaps.Goals as goal

pub overflow_sub-result : goal.overflow_sub-result
overflow_sub-result c = search (gapped, rules)

pub returns : goal.returns
returns c = search (gapped, rules)
