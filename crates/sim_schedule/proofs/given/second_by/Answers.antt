-- Made by tools/uniform from proofs.txt, not by hand: 46273417a905202e
use Rattle.sim_schedule.specs.GivenLaws.{second_blocked, second_unblocked, second_none}
use borrow.Author.Rules.{rules}
use Rattle.sim_schedule.proofs.given.second_by.Goals as goal

pub returns-then-kind-eq5 : goal.returns-then-kind-eq5
returns-then-kind-eq5 c = search (second_blocked, second_unblocked, second_none, rules)

pub returns-then-kind-eq6 : goal.returns-then-kind-eq6
returns-then-kind-eq6 c = search (second_blocked, second_unblocked, second_none, rules)

pub returns : goal.returns
returns c = search (second_blocked, second_unblocked, second_none, rules)
