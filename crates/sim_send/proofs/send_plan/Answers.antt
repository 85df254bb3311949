-- Made by tools/uniform from proofs.txt, not by hand: d31adb06d5f07851
use Rattle.sim_outputs.specs.Laws.{passed_inside}
use Rattle.sim_send.specs.Draws.{send_drawn}
use borrow.Author.Rules.{rules}
use Rattle.sim_send.proofs.send_plan.Goals as goal

pub bytes_counted-bytes-requires : goal.bytes_counted-bytes-requires
bytes_counted-bytes-requires c = search (passed_inside, send_drawn, rules)

pub counters_room-fits-requires : goal.counters_room-fits-requires
counters_room-fits-requires c = search (passed_inside, send_drawn, rules)

pub mail_drawn-p-requires : goal.mail_drawn-p-requires
mail_drawn-p-requires c = search (passed_inside, send_drawn, rules)

pub mail_count-count-requires : goal.mail_count-count-requires
mail_count-count-requires c = search (passed_inside, send_drawn, rules)

pub queue_room-room-requires : goal.queue_room-room-requires
queue_room-room-requires c = search (passed_inside, send_drawn, rules)

pub ten_if-code-requires : goal.ten_if-code-requires
ten_if-code-requires c = search (passed_inside, send_drawn, rules)

pub returns : goal.returns
returns c = search (passed_inside, send_drawn, rules)
