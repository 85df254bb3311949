-- Made by tools/uniform from proofs.txt, not by hand: 46bb11ecbe095a8c
use Rattle.state_asks.specs.WriteLaws.{writes_asked}
use Rattle.state_asks.proofs.writes.writes_asked.Goals as goal

pub returns : goal.returns
returns c = writes_asked c.write_count-writes.ensures c.counts_of-counts.ensures c.writes_given.ensures
