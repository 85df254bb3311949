-- Made by tools/uniform from proofs.txt, not by hand: 7b760953ba090bd9
use Rattle.sim_owed.specs.ServerLaws.{kind_nothing, kind_construction, kind_healing}
use borrow.Author.Rules.{rules}
use Rattle.sim_owed.proofs.Owed.kind.Goals as goal

pub returns-in-Nothing : goal.returns-in-Nothing
returns-in-Nothing c = search (kind_nothing, kind_construction, kind_healing, rules)

pub returns-in-Construction : goal.returns-in-Construction
returns-in-Construction c = search (kind_nothing, kind_construction, kind_healing, rules)

pub returns-in-Healing : goal.returns-in-Healing
returns-in-Healing c = search (kind_nothing, kind_construction, kind_healing, rules)
