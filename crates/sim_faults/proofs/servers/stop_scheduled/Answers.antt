-- Made by tools/uniform from proofs.txt, not by hand: efe2a090fae07731
use Rattle.state.specs.Exits.{inside_after}
use Rattle.sim_faults.specs.Laws.{stop_scheduled_lem}
use borrow.Author.Rules.{rules}
use Rattle.sim_faults.proofs.servers.stop_scheduled.Goals as goal

pub overflow_sub-id : goal.overflow_sub-id
overflow_sub-id c = search (inside_after, stop_scheduled_lem, rules)

pub stop_server-requires : goal.stop_server-requires
stop_server-requires c = search (inside_after, stop_scheduled_lem, rules)

pub push_plain-requires : goal.push_plain-requires
push_plain-requires c = search (inside_after, stop_scheduled_lem, rules)

pub returns : goal.returns
returns c = search (inside_after, stop_scheduled_lem, rules)
