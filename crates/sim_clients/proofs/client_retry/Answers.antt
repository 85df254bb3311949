-- Made by tools/uniform from proofs.txt, not by hand: cccb1733ebb2637f
use Rattle.sim_outputs.specs.Laws.{passed_inside}
use Rattle.sim_clients.specs.EventLaws.{retry_yes, retry_no}
use borrow.Author.Rules.{rules}
use Rattle.sim_clients.proofs.client_retry.Goals as goal

pub client_of-client-requires : goal.client_of-client-requires
client_of-client-requires c = search (passed_inside, retry_yes, retry_no, rules)

pub client_attempt-requires : goal.client_attempt-requires
client_attempt-requires c = search (passed_inside, retry_yes, retry_no, rules)

pub returns-then-client-attempt : goal.returns-then-client-attempt
returns-then-client-attempt c = search (passed_inside, retry_yes, retry_no, rules)

pub returns-else-client-attempt : goal.returns-else-client-attempt
returns-else-client-attempt c = search (passed_inside, retry_yes, retry_no, rules)
