-- Made by tools/uniform from proofs.txt, not by hand: 546f520ae054fe91
use Rattle.state_server.specs.Laws.{after_none, after_some}
use borrow.Author.Rules.{rules}
use Rattle.state_server.proofs.after_server.Goals as goal

pub returns-in-None : goal.returns-in-None
returns-in-None c = search (after_none, after_some, rules)

pub returns-in-Some : goal.returns-in-Some
returns-in-Some c = after_some _ _ _ _ _ (search rules) c.better.ensures
