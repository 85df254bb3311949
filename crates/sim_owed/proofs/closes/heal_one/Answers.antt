-- Made by tools/uniform from proofs.txt, not by hand: 8ffc03889542453a
use Rattle.state.specs.Exits.{inside_after}
use Rattle.sim_owed.specs.CloseLaws.{one_healed}
use borrow.Author.Rules.{rules}
use Rattle.sim_owed.proofs.closes.heal_one.Goals as goal

pub server_of-x-requires : goal.server_of-x-requires
server_of-x-requires c = search (inside_after, one_healed, rules)

pub uncrashed-next-requires : goal.uncrashed-next-requires
uncrashed-next-requires c = search (inside_after, one_healed, rules)

pub set_server-requires : goal.set_server-requires
set_server-requires c = search (inside_after, one_healed, rules)

pub runs-requires : goal.runs-requires
runs-requires c = search (inside_after, one_healed, rules)

pub returns : goal.returns
returns c = search (inside_after, one_healed, rules)
