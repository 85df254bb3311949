-- Made by tools/uniform from proofs.txt, not by hand: 46bc12facafb34a5
use Rattle.sim_start.specs.ContentLaws.{last_offsets_stored}
use borrow.Author.Rules.{rules}
use Rattle.sim_start.proofs.content.store_last_offsets.Goals as goal

pub returns : goal.returns
returns c = search (last_offsets_stored, rules)
