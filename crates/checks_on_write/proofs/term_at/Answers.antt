-- Made by tools/uniform from proofs.txt, not by hand: 34c380095696db3c
use Rattle.checks_on_write.specs.Laws.{term_read}
use borrow.Author.Rules.{rules}
use Rattle.checks_on_write.proofs.term_at.Goals as goal

pub returns : goal.returns
returns c = search (term_read, rules)
