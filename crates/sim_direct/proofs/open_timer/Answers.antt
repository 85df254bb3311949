-- Made by tools/uniform from proofs.txt, not by hand: b1ce3e210d46db78
use Rattle.sim_direct.specs.Laws.{timer_opens}
use borrow.Author.Rules.{rules}
use Rattle.sim_direct.proofs.open_timer.Goals as goal

pub returns : goal.returns
returns c = search (timer_opens, rules)
