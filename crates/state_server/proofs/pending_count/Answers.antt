-- Made by tools/uniform from proofs.txt, not by hand: d29063a3f810506b
use Rattle.state_server.specs.Laws.{count_read, count_past}
use borrow.Author.Rules.{rules}
use Rattle.state_server.proofs.pending_count.Goals as goal

pub returns-then-limits-n : goal.returns-then-limits-n
returns-then-limits-n c = count_past _ _ _ _ c.requires.k_lt_servers c.block_in-at.ensures _ c.load-n.ensures (search rules)

pub returns : goal.returns
returns c = count_read _ _ _ _ c.requires.k_lt_servers c.block_in-at.ensures _ c.load-n.ensures (search rules)
