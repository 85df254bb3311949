-- Made by tools/uniform from proofs.txt, not by hand: 7b29d1fd2e1247d3
use Rattle.state_asks.specs.WriteLaws.{write_count_read}
use Rattle.state_asks.proofs.writes.write_count.Goals as goal

pub returns : goal.returns
returns c = write_count_read _ _ _ _ _ c.requires.k_lt_servers c.block_at-at.ensures c.load.ensures
