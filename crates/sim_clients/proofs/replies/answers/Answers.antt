-- Made by tools/uniform from proofs.txt, not by hand: 0c69a6e7937e8c2a
use Rattle.sim_clients.specs.ReplyLaws.{answers_none, answers_some}
use borrow.Author.Rules.{rules}
use Rattle.sim_clients.proofs.replies.answers.Goals as goal

pub returns-in-None : goal.returns-in-None
returns-in-None c = search (answers_none, answers_some, rules)

pub returns-in-Some : goal.returns-in-Some
returns-in-Some c = search (answers_none, answers_some, rules)
