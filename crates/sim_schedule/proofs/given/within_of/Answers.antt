-- Made by tools/uniform from proofs.txt, not by hand: e54fa1b4f783d1bf
use Rattle.sim_schedule.specs.GivenLaws.{within_none, within_some}
use borrow.Author.Rules.{rules}
use Rattle.sim_schedule.proofs.given.within_of.Goals as goal

pub returns-in-None : goal.returns-in-None
returns-in-None c = search (within_none, within_some, rules)

pub returns-in-Some : goal.returns-in-Some
returns-in-Some c = search (within_none, within_some, rules)
