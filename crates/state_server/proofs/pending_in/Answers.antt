-- Made by tools/uniform from proofs.txt, not by hand: 14db95ef84b0fae9
use Rattle.state_server.specs.Laws.{pending_in}
use Rattle.state_server.proofs.pending_in.Goals as goal

pub returns : goal.returns
returns c = pending_in _ _ _ _ c.requires.inside c.block_at-at.ensures _ c.block_words-z.ensures
