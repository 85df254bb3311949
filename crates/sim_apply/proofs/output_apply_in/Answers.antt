-- Made by tools/uniform from proofs.txt, not by hand: fb051975f474977e
use Rattle.state.specs.Exits.{inside_of, call_shut}
use Rattle.sim_outputs.specs.Laws.{passed_of}
use Rattle.sim_apply.specs.ApplyLaws.{slot_asked, index_asked, payload_asked, apply_no, apply_yes}
use borrow.Author.Rules.{rules}
use Rattle.sim_apply.proofs.output_apply_in.Goals as goal

pub done-requires : goal.done-requires
done-requires c = search (passed_of, inside_of, call_shut, apply_no, apply_yes, rules)

pub returns-then-refusal-gt0 : goal.returns-then-refusal-gt0
returns-then-refusal-gt0 c = search (passed_of, inside_of, call_shut, apply_no, apply_yes, rules)

pub asked_of-asked-requires : goal.asked_of-asked-requires
asked_of-asked-requires c = search (passed_of, inside_of, call_shut, apply_no, apply_yes, rules)

pub done-requires-then-code-gt0 : goal.done-requires-then-code-gt0
done-requires-then-code-gt0 c = search (passed_of, inside_of, call_shut, apply_no, apply_yes, rules)

pub returns-then-code-gt0 : goal.returns-then-code-gt0
returns-then-code-gt0 c = search (passed_of, inside_of, call_shut, apply_no, apply_yes, rules)

pub apply_at-applied-requires : goal.apply_at-applied-requires
apply_at-applied-requires c = let z = c.if-code-gt0.false in record { inside = inside_of _ _ c.requires c.if-refusal-gt0.false; slot_lt_servers = slot_asked _ _ _ _ _ _ c.asked_of-asked.ensures; index_bound = index_asked _ _ _ _ _ _ c.asked_of-asked.ensures z; kind_bound = payload_asked _ _ _ _ _ _ c.asked_of-asked.ensures z }

pub done-requires-2 : goal.done-requires-2
done-requires-2 c = search (passed_of, inside_of, call_shut, apply_no, apply_yes, rules)

pub returns : goal.returns
returns c = search (passed_of, inside_of, call_shut, apply_no, apply_yes, rules)
