-- Made by tools/uniform from proofs.txt, not by hand: 4d78944baa323d50
use Rattle.sim_start.specs.ContentLaws.{tables_laid}
use borrow.Author.Rules.{rules}
use Rattle.sim_start.proofs.content.lay_tables.Goals as goal

pub returns : goal.returns
returns c = search (tables_laid, rules)
