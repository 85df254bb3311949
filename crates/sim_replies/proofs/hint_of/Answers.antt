-- Made by tools/uniform from proofs.txt, not by hand: 78784b8beb204925
use Rattle.sim_replies.specs.RedirectLaws.{hint_none, hint_some}
use borrow.Author.Rules.{rules}
use Rattle.sim_replies.proofs.hint_of.Goals as goal

pub returns-then-input-eq1 : goal.returns-then-input-eq1
returns-then-input-eq1 c = search (hint_none, hint_some, rules)

pub returns-else-input-eq1 : goal.returns-else-input-eq1
returns-else-input-eq1 c = search (hint_none, hint_some, rules)
