-- Made by tools/uniform from proofs.txt, not by hand: b742a92d15b039f9
use Rattle.sim_start.specs.ContentLaws.{first_offsets_stored}
use borrow.Author.Rules.{rules}
use Rattle.sim_start.proofs.content.store_first_offsets.Goals as goal

pub returns : goal.returns
returns c = search (first_offsets_stored, rules)
