-- Made by tools/uniform from proofs.txt, not by hand: ab0ca03fb7c32351
use Rattle.sim_start.specs.ContentLaws.{clear_stored}
use borrow.Author.Rules.{rules}
use Rattle.sim_start.proofs.content.clear.Goals as goal

pub returns : goal.returns
returns c = search (clear_stored, rules)
