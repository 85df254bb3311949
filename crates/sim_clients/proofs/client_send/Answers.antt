-- Made by tools/uniform from proofs.txt, not by hand: e56510835843b4ea
use Rattle.sim_outputs.specs.Laws.{passed_inside}
use Rattle.sim_clients.specs.EventLaws.{sent_waits, sent_begun}
use borrow.Author.Rules.{rules}
use Rattle.sim_clients.proofs.client_send.Goals as goal

pub client_of-client-requires : goal.client_of-client-requires
client_of-client-requires c = search (passed_inside, sent_waits, sent_begun, rules)

pub is_waiting-requires : goal.is_waiting-requires
is_waiting-requires c = search (passed_inside, sent_waits, sent_begun, rules)

pub returns-then-is_waiting : goal.returns-then-is_waiting
returns-then-is_waiting c = search (passed_inside, sent_waits, sent_begun, rules)

pub run_of-run-requires : goal.run_of-run-requires
run_of-run-requires c = search (passed_inside, sent_waits, sent_begun, rules)

pub begin_command-begun-requires : goal.begin_command-begun-requires
begin_command-begun-requires c = search (passed_inside, sent_waits, sent_begun, rules)

pub client_attempt-requires : goal.client_attempt-requires
client_attempt-requires c = search (passed_inside, sent_waits, sent_begun, rules)

pub returns : goal.returns
returns c = search (passed_inside, sent_waits, sent_begun, rules)
