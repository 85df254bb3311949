-- Made by tools/uniform from proofs.txt, not by hand: c8c9724e4a5faa8c
use Rattle.sim_clients.specs.RedirectLaws.{is_known_no, is_known_yes}
use borrow.Author.Rules.{rules}
use Rattle.sim_clients.proofs.redirects.is_known.Goals as goal

pub returns-in-None : goal.returns-in-None
returns-in-None c = search (is_known_no, is_known_yes, rules)

pub returns-in-Some : goal.returns-in-Some
returns-in-Some c = search (is_known_no, is_known_yes, rules)
