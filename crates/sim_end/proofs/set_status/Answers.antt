-- Made by tools/uniform from proofs.txt, not by hand: 74202ee1dd8c7686
use Rattle.sim_end.specs.StatusLaws.{status_written}
use borrow.Author.Rules.{rules}
use Rattle.sim_end.proofs.set_status.Goals as goal

pub server_of-x-requires : goal.server_of-x-requires
server_of-x-requires c = search (status_written, rules)

pub term_given-leading-requires : goal.term_given-leading-requires
term_given-leading-requires c = search (status_written, rules)

pub with_status-next-requires : goal.with_status-next-requires
with_status-next-requires c = search (status_written, rules)

pub set_server-requires : goal.set_server-requires
set_server-requires c = search (status_written, rules)

pub returns : goal.returns
returns c = search (status_written, rules)
