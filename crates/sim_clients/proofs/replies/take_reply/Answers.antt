-- Made by tools/uniform from proofs.txt, not by hand: e246dbdd443c15ab
use Rattle.state.specs.Exits.{inside_after}
use Rattle.sim_clients.specs.ReplyLaws.{taken_acts}
use borrow.Author.Rules.{rules}
use Rattle.sim_clients.proofs.replies.take_reply.Goals as goal

pub run_of-run-requires : goal.run_of-run-requires
run_of-run-requires c = search (inside_after, taken_acts, rules)

pub append_reply-requires : goal.append_reply-requires
append_reply-requires c = search (inside_after, taken_acts, rules)

pub count_reply-requires : goal.count_reply-requires
count_reply-requires c = search (inside_after, taken_acts, rules)

pub go_on-requires : goal.go_on-requires
go_on-requires c = search (inside_after, taken_acts, rules)

pub returns : goal.returns
returns c = search (inside_after, taken_acts, rules)
