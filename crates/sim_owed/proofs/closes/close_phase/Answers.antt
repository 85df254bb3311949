-- Made by tools/uniform from proofs.txt, not by hand: 816feea7b5f25530
use Rattle.sim_owed.specs.CloseLaws.{phase_closed}
use borrow.Author.Rules.{rules}
use Rattle.sim_owed.proofs.closes.close_phase.Goals as goal

pub set_open-requires : goal.set_open-requires
set_open-requires c = search (phase_closed, rules)

pub no_input-requires : goal.no_input-requires
no_input-requires c = search (phase_closed, rules)

pub returns : goal.returns
returns c = search (phase_closed, rules)
