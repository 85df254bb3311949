-- Made by tools/uniform from proofs.txt, not by hand: 9ff708cd5f4eca98
use Rattle.sim_schedule.specs.GivenLaws.{word_says}
use borrow.Author.Rules.{rules}
use Rattle.sim_schedule.proofs.given.word_in.Goals as goal

pub returns : goal.returns
returns c = search (word_says, rules)
