-- Made by tools/uniform from proofs.txt, not by hand: d7ffec2b53972de7
use Rattle.sim_owed.specs.CloseLaws.{runs_told, runs_read}
use borrow.Author.Rules.{rules}
use Rattle.sim_owed.proofs.closes.runs_as.Goals as goal

pub returns-then-place-slot : goal.returns-then-place-slot
returns-then-place-slot c = search (runs_told, runs_read, rules)

pub status_of-status-requires : goal.status_of-status-requires
status_of-status-requires c = search (runs_told, runs_read, rules)

pub runs-requires : goal.runs-requires
runs-requires c = search (runs_told, runs_read, rules)

pub returns : goal.returns
returns c = search (runs_told, runs_read, rules)
