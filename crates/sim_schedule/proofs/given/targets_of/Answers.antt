-- Made by tools/uniform from proofs.txt, not by hand: 2d9732bcc1dc7363
use Rattle.sim_schedule.specs.GivenLaws.{targets_none, targets_some}
use borrow.Author.Rules.{rules}
use Rattle.sim_schedule.proofs.given.targets_of.Goals as goal

pub returns-in-None : goal.returns-in-None
returns-in-None c = search (targets_none, targets_some, rules)

pub returns-in-Some : goal.returns-in-Some
returns-in-Some c = search (targets_none, targets_some, rules)
