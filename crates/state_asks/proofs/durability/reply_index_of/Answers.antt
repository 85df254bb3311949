-- Made by tools/uniform from proofs.txt, not by hand: 01811f140efa353a
use Rattle.state_asks.specs.DurabilityLaws.{index_past, index_read}
use Rattle.state_asks.proofs.durability.reply_index_of.Goals as goal

pub returns-then-n-i : goal.returns-then-n-i
returns-then-n-i c = index_past c.counts_of-counts.ensures c.rows_of-n.ensures _ c.if-n-i.true

pub returns : goal.returns
returns c = index_read c.counts_of-counts.ensures c.rows_of-n.ensures c.replies_at-at.ensures c.read-reply.ensures
