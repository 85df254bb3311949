-- Made by tools/uniform from proofs.txt, not by hand: 52c196283f94e870
use Rattle.sim_replies.specs.RedirectLaws.{count_yes, count_no}
use borrow.Author.Rules.{rules}
use Rattle.sim_replies.proofs.redirect_count.Goals as goal

pub refuses_client-requires : goal.refuses_client-requires
refuses_client-requires c = search (count_yes, count_no, rules)

pub returns-then-refuses_client : goal.returns-then-refuses_client
returns-then-refuses_client c = search (count_yes, count_no, rules)

pub returns-else-refuses_client : goal.returns-else-refuses_client
returns-else-refuses_client c = search (count_yes, count_no, rules)
