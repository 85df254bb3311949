-- Made by tools/uniform from proofs.txt, not by hand: 67883f55a6dcd4b5
use Rattle.sim_start.specs.ContentLaws.{first_stored}
use borrow.Author.Rules.{rules}
use Rattle.sim_start.proofs.content.store_first.Goals as goal

pub returns : goal.returns
returns c = search (first_stored, rules)
