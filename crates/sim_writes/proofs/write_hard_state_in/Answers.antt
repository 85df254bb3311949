-- Made by tools/uniform from proofs.txt, not by hand: 292c2010841d2758
use Rattle.state.specs.Exits.{inside_of, call_shut}
use Rattle.sim_writes.specs.Laws.{slot_below, hard_six, hard_nine, hard_wrote}
use borrow.Author.Rules.{rules}
use Rattle.sim_writes.proofs.write_hard_state_in.Goals as goal

pub done-requires : goal.done-requires
done-requires c = search (inside_of, slot_below, call_shut, hard_six, hard_nine, hard_wrote, rules)

pub returns-then-refusal-gt0 : goal.returns-then-refusal-gt0
returns-then-refusal-gt0 c = search (inside_of, slot_below, call_shut, hard_six, hard_nine, hard_wrote, rules)

pub writing_asked-w-requires : goal.writing_asked-w-requires
writing_asked-w-requires c = search (inside_of, slot_below, call_shut, hard_six, hard_nine, hard_wrote, rules)

pub done-requires-then-code-gt0 : goal.done-requires-then-code-gt0
done-requires-then-code-gt0 c = search (inside_of, slot_below, call_shut, hard_six, hard_nine, hard_wrote, rules)

pub returns-then-code-gt0 : goal.returns-then-code-gt0
returns-then-code-gt0 c = search (inside_of, slot_below, call_shut, hard_six, hard_nine, hard_wrote, rules)

pub done-requires-then-present-gt1 : goal.done-requires-then-present-gt1
done-requires-then-present-gt1 c = search (inside_of, slot_below, call_shut, hard_six, hard_nine, hard_wrote, rules)

pub returns-then-present-gt1 : goal.returns-then-present-gt1
returns-then-present-gt1 c = search (inside_of, slot_below, call_shut, hard_six, hard_nine, hard_wrote, rules)

pub hard_state_given-state-requires : goal.hard_state_given-state-requires
hard_state_given-state-requires c = search (inside_of, slot_below, call_shut, hard_six, hard_nine, hard_wrote, rules)

pub write_hard_state-wrote-requires : goal.write_hard_state-wrote-requires
write_hard_state-wrote-requires c = search (inside_of, slot_below, call_shut, hard_six, hard_nine, hard_wrote, rules)

pub done-requires-2 : goal.done-requires-2
done-requires-2 c = search (inside_of, slot_below, call_shut, hard_six, hard_nine, hard_wrote, rules)

pub returns : goal.returns
returns c = search (inside_of, slot_below, call_shut, hard_six, hard_nine, hard_wrote, rules)
