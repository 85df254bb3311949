-- Made by tools/uniform from proofs.txt, not by hand: f85d2d9d3e965700
use Rattle.sim_apply.specs.ApplyLaws.{next_written}
use borrow.Author.Rules.{rules}
use Rattle.sim_apply.proofs.set_next_apply.Goals as goal

pub server_of-x-requires : goal.server_of-x-requires
server_of-x-requires c = search (next_written, rules)

pub with_next_apply-next-requires : goal.with_next_apply-next-requires
with_next_apply-next-requires c = search (next_written, rules)

pub set_server-requires : goal.set_server-requires
set_server-requires c = search (next_written, rules)

pub returns : goal.returns
returns c = search (next_written, rules)
