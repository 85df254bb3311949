-- Made by tools/uniform from proofs.txt, not by hand: a68262d13584dbed
use Rattle.sim_start.specs.Laws.{first_opens}
use Rattle.sim_start.proofs.open_first.Goals as goal

pub returns : goal.returns
returns c = first_opens _ _ _ c.set_open.ensures
