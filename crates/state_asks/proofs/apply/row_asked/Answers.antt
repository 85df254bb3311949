-- Made by tools/uniform from proofs.txt, not by hand: 09e3367048edde62
use Rattle.state_asks.specs.ApplyLaws.{row_asked}
use Rattle.state_asks.proofs.apply.row_asked.Goals as goal

pub returns : goal.returns
returns c = row_asked c.well_formed.1.1.1.0.1.1.0.1 c.requires.k_lt_servers c.next_apply_of-expected.ensures c.counts_of-counts.ensures c.rows_of-n.ensures c.applied_at-at.ensures c.applied_words.ensures c.on_apply.ensures
