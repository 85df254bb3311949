-- Made by tools/uniform from proofs.txt, not by hand: 58d82c5181a4f105
use Rattle.sim_replies.specs.RedirectLaws.{redirect_none, redirect_told}
use borrow.Author.Rules.{rules}
use Rattle.sim_replies.proofs.redirect.Goals as goal

pub refuses_client-requires : goal.refuses_client-requires
refuses_client-requires c = search (redirect_none, redirect_told, rules)

pub returns-then-not-refuses_client : goal.returns-then-not-refuses_client
returns-then-not-refuses_client c = search (redirect_none, redirect_told, rules)

pub overflow_cast-key : goal.overflow_cast-key
overflow_cast-key c = search (redirect_none, redirect_told, rules)

pub hint_of-leader-requires : goal.hint_of-leader-requires
hint_of-leader-requires c = search (redirect_none, redirect_told, rules)

pub tell_client-requires : goal.tell_client-requires
tell_client-requires c = search (redirect_none, redirect_told, rules)

pub returns : goal.returns
returns c = search (redirect_none, redirect_told, rules)
