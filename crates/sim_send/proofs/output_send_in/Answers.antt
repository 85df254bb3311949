-- Made by tools/uniform from proofs.txt, not by hand: f2fdfb86443f5319
use Rattle.state.specs.Exits.{inside_of, call_shut}
use Rattle.sim_outputs.specs.Laws.{passed_of}
use Rattle.sim_send.specs.Laws.{between_asked, short_asked}
use Rattle.sim_send.specs.SendLaws.{send_no, send_ten_lem, send_yes}
use borrow.Author.Rules.{rules}
use Rattle.sim_send.proofs.output_send_in.Goals as goal

pub done-requires : goal.done-requires
done-requires c = search (passed_of, inside_of, call_shut, between_asked, short_asked, send_no, rules)

pub returns-then-refusal-gt0 : goal.returns-then-refusal-gt0
returns-then-refusal-gt0 c = search (passed_of, inside_of, call_shut, between_asked, short_asked, send_no, rules)

pub send_asked-asked-requires : goal.send_asked-asked-requires
send_asked-asked-requires c = search (passed_of, inside_of, call_shut, between_asked, short_asked, send_no, rules)

pub done-requires-then-code-gt0 : goal.done-requires-then-code-gt0
done-requires-then-code-gt0 c = search (passed_of, inside_of, call_shut, between_asked, short_asked, send_no, rules)

pub returns-then-code-gt0 : goal.returns-then-code-gt0
returns-then-code-gt0 c = search (passed_of, inside_of, call_shut, between_asked, short_asked, send_no, rules)

pub send_plan-p-requires : goal.send_plan-p-requires
send_plan-p-requires c = search (passed_of, inside_of, call_shut, between_asked, short_asked, send_no, rules)

pub done-requires-then-ten-gt0 : goal.done-requires-then-ten-gt0
done-requires-then-ten-gt0 c = search (passed_of, inside_of, call_shut, between_asked, short_asked, send_no, rules)

pub returns-then-ten-gt0 : goal.returns-then-ten-gt0
returns-then-ten-gt0 c = send_ten_lem _ _ _ _ _ _ c.requires c.if-refusal-gt0.false c.send_asked-asked.ensures c.if-code-gt0.false _ c.send_plan-p.ensures c.shared_slice_known-1.given _ c.if-ten-gt0.true c.done-then-ten-gt0.ensures

pub send_act-requires : goal.send_act-requires
send_act-requires c = let q = c.send_asked-asked.ensures in let z = c.if-code-gt0.false in record { passed = passed_of _ _ c.requires c.if-refusal-gt0.false; between = between_asked _ _ _ _ _ _ q z; message_len_bound = short_asked _ _ _ _ _ _ q z }

pub done-requires-2 : goal.done-requires-2
done-requires-2 c = search (passed_of, inside_of, call_shut, between_asked, short_asked, send_no, rules)

pub returns : goal.returns
returns c = send_yes _ _ _ _ _ _ c.requires c.if-refusal-gt0.false c.send_asked-asked.ensures c.if-code-gt0.false _ c.send_plan-p.ensures c.shared_slice_known-1.given _ _ c.if-ten-gt0.false c.send_act.ensures c.done-2.ensures
