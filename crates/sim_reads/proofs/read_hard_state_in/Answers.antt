-- Made by tools/uniform from proofs.txt, not by hand: dcd5de5069b5f347
use Rattle.state.specs.Exits.{inside_of, read_shut}
use Rattle.sim_reads.specs.Laws.{slot_below, hard_state_seven, hard_state_read}
use borrow.Author.Rules.{rules}
use Rattle.sim_reads.proofs.read_hard_state_in.Goals as goal

pub hard_state_no-requires : goal.hard_state_no-requires
hard_state_no-requires c = search (inside_of, slot_below, read_shut, hard_state_seven, hard_state_read, rules)

pub returns-then-refusal-gt0 : goal.returns-then-refusal-gt0
returns-then-refusal-gt0 c = search (inside_of, slot_below, read_shut, hard_state_seven, hard_state_read, rules)

pub server_asked-asked-requires : goal.server_asked-asked-requires
server_asked-asked-requires c = search (inside_of, slot_below, read_shut, hard_state_seven, hard_state_read, rules)

pub hard_state_no-requires-then-code-gt0 : goal.hard_state_no-requires-then-code-gt0
hard_state_no-requires-then-code-gt0 c = search (inside_of, slot_below, read_shut, hard_state_seven, hard_state_read, rules)

pub returns-then-code-gt0 : goal.returns-then-code-gt0
returns-then-code-gt0 c = search (inside_of, slot_below, read_shut, hard_state_seven, hard_state_read, rules)

pub storage_of-v-requires : goal.storage_of-v-requires
storage_of-v-requires c = search (inside_of, slot_below, read_shut, hard_state_seven, hard_state_read, rules)

pub hard_state_yes-requires : goal.hard_state_yes-requires
hard_state_yes-requires c = search (inside_of, slot_below, read_shut, hard_state_seven, hard_state_read, rules)

pub returns : goal.returns
returns c = search (inside_of, slot_below, read_shut, hard_state_seven, hard_state_read, rules)
