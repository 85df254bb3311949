-- Made by tools/uniform from proofs.txt, not by hand: 6e079d926185a746
use Rattle.state.specs.Exits.{inside_after}
use Rattle.sim_clients.specs.ReplyLaws.{went_acts}
use borrow.Author.Rules.{rules}
use Rattle.sim_clients.proofs.replies.go_on.Goals as goal

pub rest-rested-requires : goal.rest-rested-requires
rest-rested-requires c = search (inside_after, went_acts, rules)

pub set_client-requires : goal.set_client-requires
set_client-requires c = search (inside_after, went_acts, rules)

pub push_plain-requires : goal.push_plain-requires
push_plain-requires c = search (inside_after, went_acts, rules)

pub returns : goal.returns
returns c = search (inside_after, went_acts, rules)
