-- Made by tools/uniform from proofs.txt, not by hand: 7becb6f66cc392c2
use Rattle.sim_schedule.specs.GivenLaws.{targets_groups, targets_others}
use borrow.Author.Rules.{rules}
use Rattle.sim_schedule.proofs.given.targets_in.Goals as goal

pub returns-then-kind-eq4 : goal.returns-then-kind-eq4
returns-then-kind-eq4 c = search (targets_groups, targets_others, rules)

pub returns-else-kind-eq4 : goal.returns-else-kind-eq4
returns-else-kind-eq4 c = search (targets_groups, targets_others, rules)
