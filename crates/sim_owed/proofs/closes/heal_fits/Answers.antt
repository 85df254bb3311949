-- Made by tools/uniform from proofs.txt, not by hand: 659fb98ddc477c99
use Rattle.sim_owed.specs.CloseLaws.{heal_some, heal_all_lem}
use borrow.Author.Rules.{rules}
use Rattle.sim_owed.proofs.closes.heal_fits.Goals as goal

pub first_stopped-k-requires : goal.first_stopped-k-requires
first_stopped-k-requires c = search (heal_some, heal_all_lem, rules)

pub restart_fits-requires : goal.restart_fits-requires
restart_fits-requires c = search (heal_some, heal_all_lem, rules)

pub returns-then-k-f : goal.returns-then-k-f
returns-then-k-f c = search (heal_some, heal_all_lem, rules)

pub returns : goal.returns
returns c = search (heal_some, heal_all_lem, rules)
