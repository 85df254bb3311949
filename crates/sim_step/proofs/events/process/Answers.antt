-- Made by tools/uniform from proofs.txt, not by hand: 498b0368dbebb3d2
use Rattle.sim_outputs.specs.Laws.{passed_inside}
use Rattle.sim_step.specs.EventLaws.{ranges, done_by}
use borrow.Author.Rules.{rules}
use Rattle.sim_step.proofs.events.process.Goals as goal

pub start_event-requires : goal.start_event-requires
start_event-requires c = search (passed_inside, ranges, done_by, rules)

pub deliver_event-requires : goal.deliver_event-requires
deliver_event-requires c = search (passed_inside, ranges, done_by, rules)

pub timer_event-requires : goal.timer_event-requires
timer_event-requires c = search (passed_inside, ranges, done_by, rules)

pub apply_fault-requires : goal.apply_fault-requires
apply_fault-requires c = search (passed_inside, ranges, done_by, rules)

pub send_event-requires : goal.send_event-requires
send_event-requires c = search (passed_inside, ranges, done_by, rules)

pub arrive_event-requires : goal.arrive_event-requires
arrive_event-requires c = search (passed_inside, ranges, done_by, rules)

pub redirect_event-requires : goal.redirect_event-requires
redirect_event-requires c = search (passed_inside, ranges, done_by, rules)

pub retry_event-requires : goal.retry_event-requires
retry_event-requires c = search (passed_inside, ranges, done_by, rules)

pub reply_event-requires : goal.reply_event-requires
reply_event-requires c = search (passed_inside, ranges, done_by, rules)

pub timeout_event-requires : goal.timeout_event-requires
timeout_event-requires c = search (passed_inside, ranges, done_by, rules)

pub returns-in-Start : goal.returns-in-Start
returns-in-Start c = search (passed_inside, ranges, done_by, rules)

pub returns-in-Deliver : goal.returns-in-Deliver
returns-in-Deliver c = search (passed_inside, ranges, done_by, rules)

pub returns-in-Timer : goal.returns-in-Timer
returns-in-Timer c = search (passed_inside, ranges, done_by, rules)

pub returns-in-Fault : goal.returns-in-Fault
returns-in-Fault c = search (passed_inside, ranges, done_by, rules)

pub returns-in-ClientSend : goal.returns-in-ClientSend
returns-in-ClientSend c = search (passed_inside, ranges, done_by, rules)

pub returns-in-ClientArrive : goal.returns-in-ClientArrive
returns-in-ClientArrive c = search (passed_inside, ranges, done_by, rules)

pub returns-in-ClientRedirect : goal.returns-in-ClientRedirect
returns-in-ClientRedirect c = search (passed_inside, ranges, done_by, rules)

pub returns-in-ClientRetry : goal.returns-in-ClientRetry
returns-in-ClientRetry c = search (passed_inside, ranges, done_by, rules)

pub returns-in-ClientReply : goal.returns-in-ClientReply
returns-in-ClientReply c = search (passed_inside, ranges, done_by, rules)

pub returns-in-ClientTimeout : goal.returns-in-ClientTimeout
returns-in-ClientTimeout c = search (passed_inside, ranges, done_by, rules)
