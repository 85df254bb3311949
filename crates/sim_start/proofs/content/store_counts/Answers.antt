-- Made by tools/uniform from proofs.txt, not by hand: 614254bc115217ab
use Rattle.sim_start.specs.ContentLaws.{counts_stored}
use borrow.Author.Rules.{rules}
use Rattle.sim_start.proofs.content.store_counts.Goals as goal

pub returns : goal.returns
returns c = search (counts_stored, rules)
