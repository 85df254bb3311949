-- Made by tools/uniform from proofs.txt, not by hand: 92874119ecacf4d7
use Rattle.sim_replies.specs.RedirectLaws.{refuses_is}
use borrow.Author.Rules.{rules}
use Rattle.sim_replies.proofs.refuses_client.Goals as goal

pub returns : goal.returns
returns c = search (refuses_is, rules)
