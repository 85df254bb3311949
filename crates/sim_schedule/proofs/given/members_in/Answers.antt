-- Made by tools/uniform from proofs.txt, not by hand: 9904fd11bd0a4f4b
use Rattle.sim_schedule.specs.GivenLaws.{members}
use borrow.Author.Rules.{rules}
use Rattle.sim_schedule.proofs.given.members_in.Goals as goal

pub returns-then-limit-group : goal.returns-then-limit-group
returns-then-limit-group c = search (members, rules)

pub loop-i-preserved : goal.loop-i-preserved
loop-i-preserved c = search (members, rules)

pub returns : goal.returns
returns c = search (members, rules)
