-- Made by tools/uniform from proofs.txt, not by hand: 1c83961f88165766
use Rattle.state_queue.specs.Laws.{plain_put}
use Rattle.state_queue.proofs.push_plain.Goals as goal

pub returns : goal.returns
returns c = plain_put _ _ _ _ _ c.push_event.ensures
