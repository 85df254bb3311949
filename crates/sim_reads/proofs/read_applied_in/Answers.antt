-- Made by tools/uniform from proofs.txt, not by hand: 732bed78ac914f91
use Rattle.state.specs.Exits.{inside_of, read_shut}
use Rattle.sim_reads.specs.Laws.{slot_below, applied_seven, applied_read}
use borrow.Author.Rules.{rules}
use Rattle.sim_reads.proofs.read_applied_in.Goals as goal

pub applied_no-requires : goal.applied_no-requires
applied_no-requires c = search (inside_of, slot_below, read_shut, applied_seven, applied_read, rules)

pub returns-then-refusal-gt0 : goal.returns-then-refusal-gt0
returns-then-refusal-gt0 c = search (inside_of, slot_below, read_shut, applied_seven, applied_read, rules)

pub server_asked-asked-requires : goal.server_asked-asked-requires
server_asked-asked-requires c = search (inside_of, slot_below, read_shut, applied_seven, applied_read, rules)

pub applied_no-requires-then-code-gt0 : goal.applied_no-requires-then-code-gt0
applied_no-requires-then-code-gt0 c = search (inside_of, slot_below, read_shut, applied_seven, applied_read, rules)

pub returns-then-code-gt0 : goal.returns-then-code-gt0
returns-then-code-gt0 c = search (inside_of, slot_below, read_shut, applied_seven, applied_read, rules)

pub server_of-v-requires : goal.server_of-v-requires
server_of-v-requires c = search (inside_of, slot_below, read_shut, applied_seven, applied_read, rules)

pub before-requires : goal.before-requires
before-requires c = search (inside_of, slot_below, read_shut, applied_seven, applied_read, rules)

pub applied_yes-requires : goal.applied_yes-requires
applied_yes-requires c = search (inside_of, slot_below, read_shut, applied_seven, applied_read, rules)

pub returns : goal.returns
returns c = search (inside_of, slot_below, read_shut, applied_seven, applied_read, rules)
