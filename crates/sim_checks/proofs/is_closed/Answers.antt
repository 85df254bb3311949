-- Made by tools/uniform from proofs.txt, not by hand: edf63a29e1d0417d
use Rattle.sim_checks.specs.StepLaws.{closed_read}
use borrow.Author.Rules.{rules}
use Rattle.sim_checks.proofs.is_closed.Goals as goal

pub open_of-open-requires : goal.open_of-open-requires
open_of-open-requires c = search (closed_read, rules)

pub returns : goal.returns
returns c = search (closed_read, rules)
