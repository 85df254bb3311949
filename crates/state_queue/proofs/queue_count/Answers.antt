-- Made by tools/uniform from proofs.txt, not by hand: 8d8222b9f2b986ee
use Rattle.state_queue.specs.Laws.{count_read}
use Rattle.state_queue.proofs.queue_count.Goals as goal

pub returns : goal.returns
returns c = count_read _ _ _ c.load.ensures
