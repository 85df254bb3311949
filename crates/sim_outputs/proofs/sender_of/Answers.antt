-- Made by tools/uniform from proofs.txt, not by hand: 9c29b8c808750860
use Rattle.sim_outputs.specs.Laws.{sender_read}
use borrow.Author.Rules.{rules}
use Rattle.sim_outputs.proofs.sender_of.Goals as goal

pub returns : goal.returns
returns c = search (sender_read, rules)
