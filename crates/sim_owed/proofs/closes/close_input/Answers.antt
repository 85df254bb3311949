-- Made by tools/uniform from proofs.txt, not by hand: b4614e701f67b37e
use Rattle.sim_owed.specs.CloseLaws.{close_nothing, close_construction, close_healing}
use borrow.Author.Rules.{rules}
use Rattle.sim_owed.proofs.closes.close_input.Goals as goal

pub close_phase-requires : goal.close_phase-requires
close_phase-requires c = search (close_nothing, close_construction, close_healing, rules)

pub construct_from-requires : goal.construct_from-requires
construct_from-requires c = search (close_nothing, close_construction, close_healing, rules)

pub heal_from-requires : goal.heal_from-requires
heal_from-requires c = search (close_nothing, close_construction, close_healing, rules)

pub returns-in-Nothing : goal.returns-in-Nothing
returns-in-Nothing c = search (close_nothing, close_construction, close_healing, rules)

pub returns-in-Construction : goal.returns-in-Construction
returns-in-Construction c = search (close_nothing, close_construction, close_healing, rules)

pub returns-in-Healing : goal.returns-in-Healing
returns-in-Healing c = search (close_nothing, close_construction, close_healing, rules)
