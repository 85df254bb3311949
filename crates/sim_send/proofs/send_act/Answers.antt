-- Made by tools/uniform from proofs.txt, not by hand: e18134dc3702440d
use Rattle.state.specs.Exits.{inside_after}
use Rattle.sim_outputs.specs.Laws.{passed_inside}
use Rattle.sim_send.specs.Acts.{sent_acts}
use borrow.Author.Rules.{rules}
use Rattle.sim_send.proofs.send_act.Goals as goal

pub route_send-requires : goal.route_send-requires
route_send-requires c = search (passed_inside, inside_after, sent_acts, rules)

pub count_send-requires : goal.count_send-requires
count_send-requires c = search (passed_inside, inside_after, sent_acts, rules)

pub push_mail-requires : goal.push_mail-requires
push_mail-requires c = search (passed_inside, inside_after, sent_acts, rules)

pub returns : goal.returns
returns c = search (passed_inside, inside_after, sent_acts, rules)
