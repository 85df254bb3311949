-- Made by tools/uniform from proofs.txt, not by hand: e2a7798fa658dbce
use Rattle.sim_end.specs.StatusLaws.{term_some, term_none}
use borrow.Author.Rules.{rules}
use Rattle.sim_end.proofs.term_given.Goals as goal

pub returns-then-leads : goal.returns-then-leads
returns-then-leads c = search (term_some, term_none, rules)

pub returns-else-leads : goal.returns-else-leads
returns-else-leads c = search (term_some, term_none, rules)
