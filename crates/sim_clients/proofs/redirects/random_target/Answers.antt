-- Made by tools/uniform from proofs.txt, not by hand: d71c97e2c9193c19
use Rattle.state.specs.Exits.{inside_after}
use Rattle.sim_clients.specs.RedirectLaws.{drawn_acts}
use borrow.Author.Rules.{rules}
use Rattle.sim_clients.proofs.redirects.random_target.Goals as goal

pub run_of-run-requires : goal.run_of-run-requires
run_of-run-requires c = search (inside_after, drawn_acts, rules)

pub drawn_under-d-requires : goal.drawn_under-d-requires
drawn_under-d-requires c = search (inside_after, drawn_acts, rules)

pub with_target-moved-requires : goal.with_target-moved-requires
with_target-moved-requires c = search (inside_after, drawn_acts, rules)

pub set_client-requires : goal.set_client-requires
set_client-requires c = search (inside_after, drawn_acts, rules)

pub set_workload-requires : goal.set_workload-requires
set_workload-requires c = search (inside_after, drawn_acts, rules)

pub returns : goal.returns
returns c = search (inside_after, drawn_acts, rules)
