-- Made by tools/uniform from proofs.txt, not by hand: be19da3109985f39
use Rattle.state_asks.specs.WriteLaws.{write_asked_lem}
use Rattle.state_asks.proofs.writes.write_asked.Goals as goal

pub returns : goal.returns
returns c = write_asked_lem c.requires.k_lt_servers c.counts_of-counts.ensures c.rows_of-n.ensures c.block_at-to.ensures c.seen_at-at.ensures c.log_words.ensures c.seen_words.ensures c.on_write.ensures
