-- Made by tools/uniform from proofs.txt, not by hand: 813243e7012c8f1f
use Rattle.state.specs.Exits.{inside_after}
use Rattle.sim_outputs.specs.Laws.{passed_inside}
use Rattle.sim_clients.specs.EventLaws.{timeout_no, timeout_yes}
use borrow.Author.Rules.{rules}
use Rattle.sim_clients.proofs.client_timeout.Goals as goal

pub client_of-client-requires : goal.client_of-client-requires
client_of-client-requires c = search (passed_inside, inside_after, timeout_no, timeout_yes, rules)

pub awaits-requires : goal.awaits-requires
awaits-requires c = search (passed_inside, inside_after, timeout_no, timeout_yes, rules)

pub returns-then-not-awaits : goal.returns-then-not-awaits
returns-then-not-awaits c = search (passed_inside, inside_after, timeout_no, timeout_yes, rules)

pub run_of-run-requires : goal.run_of-run-requires
run_of-run-requires c = search (passed_inside, inside_after, timeout_no, timeout_yes, rules)

pub drawn_under-d-requires : goal.drawn_under-d-requires
drawn_under-d-requires c = search (passed_inside, inside_after, timeout_no, timeout_yes, rules)

pub with_target-moved-requires : goal.with_target-moved-requires
with_target-moved-requires c = search (passed_inside, inside_after, timeout_no, timeout_yes, rules)

pub client_attempt-requires : goal.client_attempt-requires
client_attempt-requires c = search (passed_inside, inside_after, timeout_no, timeout_yes, rules)

pub set_workload-requires : goal.set_workload-requires
set_workload-requires c = search (passed_inside, inside_after, timeout_no, timeout_yes, rules)

pub returns : goal.returns
returns c = search (passed_inside, inside_after, timeout_no, timeout_yes, rules)
