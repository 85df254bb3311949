-- Made by tools/uniform from proofs.txt, not by hand: 7113a8a6746b2437
use Rattle.sim_owed.specs.ServerLaws.{place_nothing, place_construction, place_healing}
use borrow.Author.Rules.{rules}
use Rattle.sim_owed.proofs.Owed.place.Goals as goal

pub returns-in-Nothing : goal.returns-in-Nothing
returns-in-Nothing c = search (place_nothing, place_construction, place_healing, rules)

pub returns-in-Construction : goal.returns-in-Construction
returns-in-Construction c = search (place_nothing, place_construction, place_healing, rules)

pub returns-in-Healing : goal.returns-in-Healing
returns-in-Healing c = search (place_nothing, place_construction, place_healing, rules)
