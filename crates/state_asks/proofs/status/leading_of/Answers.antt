-- Made by tools/uniform from proofs.txt, not by hand: 8be87f3398f9aea7
use Rattle.state_asks.specs.StatusLaws.{leading_read}
use Rattle.state_asks.proofs.status.leading_of.Goals as goal

pub returns : goal.returns
returns c = leading_read _ _ _ _ _ _ _ c.requires.k_lt_servers c.block_at-at.ensures c.load-flag.ensures c.load-term.ensures c.term_of.ensures
