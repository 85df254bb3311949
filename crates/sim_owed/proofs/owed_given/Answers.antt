-- Made by tools/uniform from proofs.txt, not by hand: 7cf95b45f8e0546e
use Rattle.sim_owed.specs.ServerLaws.{given_nothing, given_construction, given_healing}
use borrow.Author.Rules.{rules}
use Rattle.sim_owed.proofs.owed_given.Goals as goal

pub returns-then-kind-eq0 : goal.returns-then-kind-eq0
returns-then-kind-eq0 c = search (given_nothing, given_construction, given_healing, rules)

pub returns-then-kind-eq1 : goal.returns-then-kind-eq1
returns-then-kind-eq1 c = search (given_nothing, given_construction, given_healing, rules)

pub returns : goal.returns
returns c = search (given_nothing, given_construction, given_healing, rules)
