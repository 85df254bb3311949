-- Made by tools/uniform from proofs.txt, not by hand: c9cdbf0f29fa6754
use Rattle.sim_schedule.specs.GivenLaws.{few_counted, few_others}
use borrow.Author.Rules.{rules}
use Rattle.sim_schedule.proofs.given.groups_few.Goals as goal

pub returns-then-kind-eq4 : goal.returns-then-kind-eq4
returns-then-kind-eq4 c = search (few_counted, few_others, rules)

pub returns-else-kind-eq4 : goal.returns-else-kind-eq4
returns-else-kind-eq4 c = search (few_counted, few_others, rules)
