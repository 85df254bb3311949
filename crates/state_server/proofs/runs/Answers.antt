-- Made by tools/uniform from proofs.txt, not by hand: 32d48844e45d4561
use Rattle.state_server.specs.Laws.{runs_none, runs_some}
use borrow.Author.Rules.{rules}
use Rattle.state_server.proofs.runs.Goals as goal

pub returns-in-None : goal.returns-in-None
returns-in-None c = search (runs_none, runs_some, rules)

pub returns-in-Some : goal.returns-in-Some
returns-in-Some c = search (runs_none, runs_some, rules)
