-- Made by tools/uniform from proofs.txt, not by hand: caa789fe2687daee
use Rattle.sim_schedule.specs.GivenLaws.{groups_say}
use borrow.Author.Rules.{rules}
use Rattle.sim_schedule.proofs.given.groups_word.Goals as goal

pub returns : goal.returns
returns c = search (groups_say, rules)
