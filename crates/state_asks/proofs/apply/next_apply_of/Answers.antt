-- Made by tools/uniform from proofs.txt, not by hand: 953f2d49cac3808c
use Rattle.state_asks.specs.Laws.{next_apply_read}
use Rattle.state_asks.proofs.apply.next_apply_of.Goals as goal

pub returns : goal.returns
returns c = next_apply_read _ _ _ _ _ c.requires.k_lt_servers c.block_at-at.ensures c.load.ensures
