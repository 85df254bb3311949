-- Made by tools/uniform from proofs.txt, not by hand: 4bdae449f828de59
use Rattle.state.specs.Exits.{inside_of, call_shut}
use Rattle.sim_writes.specs.Laws.{slot_below, put_six, put_wrote}
use borrow.Author.Rules.{rules}
use Rattle.sim_writes.proofs.write_put_in.Goals as goal

pub done-requires : goal.done-requires
done-requires c = search (inside_of, slot_below, call_shut, put_six, put_wrote, rules)

pub returns-then-refusal-gt0 : goal.returns-then-refusal-gt0
returns-then-refusal-gt0 c = search (inside_of, slot_below, call_shut, put_six, put_wrote, rules)

pub writing_asked-w-requires : goal.writing_asked-w-requires
writing_asked-w-requires c = search (inside_of, slot_below, call_shut, put_six, put_wrote, rules)

pub done-requires-then-code-gt0 : goal.done-requires-then-code-gt0
done-requires-then-code-gt0 c = search (inside_of, slot_below, call_shut, put_six, put_wrote, rules)

pub returns-then-code-gt0 : goal.returns-then-code-gt0
returns-then-code-gt0 c = search (inside_of, slot_below, call_shut, put_six, put_wrote, rules)

pub put_at-wrote-requires : goal.put_at-wrote-requires
put_at-wrote-requires c = search (inside_of, slot_below, call_shut, put_six, put_wrote, rules)

pub done-requires-2 : goal.done-requires-2
done-requires-2 c = search (inside_of, slot_below, call_shut, put_six, put_wrote, rules)

pub returns : goal.returns
returns c = search (inside_of, slot_below, call_shut, put_six, put_wrote, rules)
