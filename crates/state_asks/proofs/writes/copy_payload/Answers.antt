-- Made by tools/uniform from proofs.txt, not by hand: 8a05ffcc68c5d61f
use Rattle.state_asks.specs.WriteLaws.{payload_zero, payload_past, payload_copied}
use Rattle.state_asks.proofs.writes.copy_payload.Goals as goal

pub returns-then-index-lt1 : goal.returns-then-index-lt1
returns-then-index-lt1 c = payload_zero _ c.requires.k_lt_servers c.if-index-lt1.true

pub returns-then-limits-index : goal.returns-then-limits-index
returns-then-limits-index c = payload_past _ c.requires.k_lt_servers c.if-limits-index.true

pub returns : goal.returns
returns c = payload_copied _ _ c.requires.k_lt_servers c.if-index-lt1.false c.if-limits-index.false c.requires.content_len c.block_at-to.ensures c.start_of.ensures.0 c.copy_from.ensures
