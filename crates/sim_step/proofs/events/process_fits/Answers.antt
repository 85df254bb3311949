-- Made by tools/uniform from proofs.txt, not by hand: f78c4e48812c864a
use Rattle.sim_outputs.specs.Laws.{passed_inside}
use Rattle.sim_step.specs.EventLaws.{ranges, tests}
use borrow.Author.Rules.{rules}
use Rattle.sim_step.proofs.events.process_fits.Goals as goal

pub deliver_fits-requires : goal.deliver_fits-requires
deliver_fits-requires c = search (passed_inside, ranges, tests, rules)

pub fault_fits-requires : goal.fault_fits-requires
fault_fits-requires c = search (passed_inside, ranges, tests, rules)

pub client_send_fits-requires : goal.client_send_fits-requires
client_send_fits-requires c = search (passed_inside, ranges, tests, rules)

pub arrive_fits-requires : goal.arrive_fits-requires
arrive_fits-requires c = search (passed_inside, ranges, tests, rules)

pub client_redirect_fits-requires : goal.client_redirect_fits-requires
client_redirect_fits-requires c = search (passed_inside, ranges, tests, rules)

pub client_again_fits-requires : goal.client_again_fits-requires
client_again_fits-requires c = search (passed_inside, ranges, tests, rules)

pub client_reply_fits-requires : goal.client_reply_fits-requires
client_reply_fits-requires c = search (passed_inside, ranges, tests, rules)

pub client_again_fits-requires-in-ClientTimeout : goal.client_again_fits-requires-in-ClientTimeout
client_again_fits-requires-in-ClientTimeout c = search (passed_inside, ranges, tests, rules)

pub returns-in-Start : goal.returns-in-Start
returns-in-Start c = search (passed_inside, ranges, tests, rules)

pub returns-in-Deliver : goal.returns-in-Deliver
returns-in-Deliver c = search (passed_inside, ranges, tests, rules)

pub returns-in-Timer : goal.returns-in-Timer
returns-in-Timer c = search (passed_inside, ranges, tests, rules)

pub returns-in-Fault : goal.returns-in-Fault
returns-in-Fault c = search (passed_inside, ranges, tests, rules)

pub returns-in-ClientSend : goal.returns-in-ClientSend
returns-in-ClientSend c = search (passed_inside, ranges, tests, rules)

pub returns-in-ClientArrive : goal.returns-in-ClientArrive
returns-in-ClientArrive c = search (passed_inside, ranges, tests, rules)

pub returns-in-ClientRedirect : goal.returns-in-ClientRedirect
returns-in-ClientRedirect c = search (passed_inside, ranges, tests, rules)

pub returns-in-ClientRetry : goal.returns-in-ClientRetry
returns-in-ClientRetry c = search (passed_inside, ranges, tests, rules)

pub returns-in-ClientReply : goal.returns-in-ClientReply
returns-in-ClientReply c = search (passed_inside, ranges, tests, rules)

pub returns-in-ClientTimeout : goal.returns-in-ClientTimeout
returns-in-ClientTimeout c = search (passed_inside, ranges, tests, rules)
