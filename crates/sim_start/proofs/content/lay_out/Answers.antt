-- Made by tools/uniform from proofs.txt, not by hand: 8f594da71d3f6bb2
use Rattle.sim_start.specs.ContentLaws.{content_laid}
use borrow.Author.Rules.{rules}
use Rattle.sim_start.proofs.content.lay_out.Goals as goal

pub returns : goal.returns
returns c = search (content_laid, rules)
