-- Made by tools/uniform from proofs.txt, not by hand: d1c2ddf4ce7fa375
use Rattle.state_asks.specs.DurabilityLaws.{missing_past, missing_read}
use Rattle.state_asks.proofs.durability.reply_missing_of.Goals as goal

pub returns-then-n-i : goal.returns-then-n-i
returns-then-n-i c = missing_past c.counts_of-counts.ensures c.rows_of-n.ensures _ c.if-n-i.true

pub returns : goal.returns
returns c = missing_read c.counts_of-counts.ensures c.rows_of-n.ensures c.if-n-i.false c.command_bytes_of-size.ensures c.rows_of-m.ensures c.at_most-bytes.ensures c.replies_at-at.ensures c.applied_at-from.ensures c.applied_words.ensures c.reply_missing.ensures
