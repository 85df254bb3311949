-- Made by tools/uniform from proofs.txt, not by hand: d5507da66998152c
use Rattle.state_asks.specs.WriteLaws.{index_past, index_read}
use Rattle.state_asks.proofs.writes.written_index.Goals as goal

pub returns-then-m-i : goal.returns-then-m-i
returns-then-m-i c = index_past c.requires.k_lt_servers c.write_count-writes.ensures c.rows_of-m.ensures _ c.if-m-i.true

pub returns : goal.returns
returns c = index_read c.requires.k_lt_servers c.write_count-writes.ensures c.rows_of-m.ensures c.block_at.ensures c.log_words.ensures c.waiting_words.ensures c.write_at.ensures c.put_index.ensures
