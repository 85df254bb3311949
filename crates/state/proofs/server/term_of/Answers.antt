-- Made by tools/uniform from proofs.txt, not by hand: 9bde4541ee87694f
use Rattle.state.specs.Loads.{term_none, term_some}
use borrow.Author.Rules.{rules}
use Rattle.state.proofs.server.term_of.Goals as goal

pub returns-then-flag-eq0 : goal.returns-then-flag-eq0
returns-then-flag-eq0 c = search (term_none, term_some, rules)

pub returns-else-flag-eq0 : goal.returns-else-flag-eq0
returns-else-flag-eq0 c = search (term_none, term_some, rules)
