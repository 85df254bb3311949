-- Made by tools/uniform from proofs.txt, not by hand: a897c62950b7d056
use Rattle.sim_schedule.specs.GivenLaws.{first_groups, first_none, first_past, first_own}
use borrow.Author.Rules.{rules}
use Rattle.sim_schedule.proofs.given.first_by.Goals as goal

pub returns-then-kind-eq4 : goal.returns-then-kind-eq4
returns-then-kind-eq4 c = search (first_groups, first_none, first_past, first_own, rules)

pub returns-then-kind-eq7 : goal.returns-then-kind-eq7
returns-then-kind-eq7 c = search (first_groups, first_none, first_past, first_own, rules)

pub returns-then-kind-gt10 : goal.returns-then-kind-gt10
returns-then-kind-gt10 c = search (first_groups, first_none, first_past, first_own, rules)

pub returns : goal.returns
returns c = search (first_groups, first_none, first_past, first_own, rules)
