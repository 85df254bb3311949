-- Made by tools/uniform from proofs.txt, not by hand: 4f40b2ea5eb2a922
use Rattle.sim_owed.specs.CloseLaws.{sought_start, sought_turn, sought_found, sought_none}
use borrow.Author.Rules.{rules}
use Rattle.sim_owed.proofs.closes.first_stopped.Goals as goal

pub loop-k-init : goal.loop-k-init
loop-k-init c = search (sought_start, sought_turn, sought_found, sought_none, rules)

pub runs_as-requires : goal.runs_as-requires
runs_as-requires c = search (sought_start, sought_turn, sought_found, sought_none, rules)

pub returns-then-not-runs_as : goal.returns-then-not-runs_as
returns-then-not-runs_as c = search (sought_start, sought_turn, sought_found, sought_none, rules)

pub loop-k-smaller : goal.loop-k-smaller
loop-k-smaller c = search (sought_start, sought_turn, sought_found, sought_none, rules)

pub loop-k-preserved : goal.loop-k-preserved
loop-k-preserved c = search (sought_start, sought_turn, sought_found, sought_none, rules)

pub max-requires : goal.max-requires
max-requires c = search (sought_start, sought_turn, sought_found, sought_none, rules)

pub returns : goal.returns
returns c = search (sought_start, sought_turn, sought_found, sought_none, rules)
