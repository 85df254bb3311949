-- Made by tools/uniform from proofs.txt, not by hand: 5a44f479e93ecac7
use Rattle.sim_owed.specs.CloseLaws.{asked_nothing, asked_construction, asked_healing}
use borrow.Author.Rules.{rules}
use Rattle.sim_owed.proofs.closes.close_fits.Goals as goal

pub construct_fits-requires : goal.construct_fits-requires
construct_fits-requires c = search (asked_nothing, asked_construction, asked_healing, rules)

pub heal_fits-requires : goal.heal_fits-requires
heal_fits-requires c = search (asked_nothing, asked_construction, asked_healing, rules)

pub returns-in-Nothing : goal.returns-in-Nothing
returns-in-Nothing c = search (asked_nothing, asked_construction, asked_healing, rules)

pub returns-in-Construction : goal.returns-in-Construction
returns-in-Construction c = search (asked_nothing, asked_construction, asked_healing, rules)

pub returns-in-Healing : goal.returns-in-Healing
returns-in-Healing c = search (asked_nothing, asked_construction, asked_healing, rules)
