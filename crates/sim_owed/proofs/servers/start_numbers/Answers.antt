-- Made by tools/uniform from proofs.txt, not by hand: 7634e4fc963aa8ed
use Rattle.sim_owed.specs.ServerLaws.{starts_as}
use borrow.Author.Rules.{rules}
use Rattle.sim_owed.proofs.servers.start_numbers.Goals as goal

pub overflow_add-id : goal.overflow_add-id
overflow_add-id c = search (starts_as, rules)

pub overflow_cast-stream : goal.overflow_cast-stream
overflow_cast-stream c = search (starts_as, rules)

pub stream_seed-own-requires : goal.stream_seed-own-requires
stream_seed-own-requires c = search (starts_as, rules)

pub start_input-requires : goal.start_input-requires
start_input-requires c = search (starts_as, rules)

pub returns : goal.returns
returns c = search (starts_as, rules)
