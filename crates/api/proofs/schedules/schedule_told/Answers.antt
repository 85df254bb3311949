-- Made by tools/uniform from proofs.txt, not by hand: 8905de23b3e3464b
use Rattle.api.specs.Laws.{told_refused, told_made}
use borrow.Author.Rules.{rules}
use Rattle.api.proofs.schedules.schedule_told.Goals as goal

pub from-requires : goal.from-requires
from-requires c = search (told_refused, told_made, rules)

pub returns-in-Err : goal.returns-in-Err
returns-in-Err c = search (told_refused, told_made, rules)

pub returns-in-Ok : goal.returns-in-Ok
returns-in-Ok c = search (told_refused, told_made, rules)
