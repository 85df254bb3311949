-- Made by tools/uniform from proofs.txt, not by hand: 7649f883bbab9153
use Rattle.state.specs.Exits.{inside_of, read_shut}
use Rattle.sim_reads.specs.Laws.{slot_below, log_seven, log_read_lem}
use borrow.Author.Rules.{rules}
use Rattle.sim_reads.proofs.read_log_in.Goals as goal

pub log_no-requires : goal.log_no-requires
log_no-requires c = search (inside_of, slot_below, read_shut, log_seven, log_read_lem, rules)

pub returns-then-refusal-gt0 : goal.returns-then-refusal-gt0
returns-then-refusal-gt0 c = search (inside_of, slot_below, read_shut, log_seven, log_read_lem, rules)

pub server_asked-asked-requires : goal.server_asked-asked-requires
server_asked-asked-requires c = search (inside_of, slot_below, read_shut, log_seven, log_read_lem, rules)

pub log_no-requires-then-code-gt0 : goal.log_no-requires-then-code-gt0
log_no-requires-then-code-gt0 c = search (inside_of, slot_below, read_shut, log_seven, log_read_lem, rules)

pub returns-then-code-gt0 : goal.returns-then-code-gt0
returns-then-code-gt0 c = search (inside_of, slot_below, read_shut, log_seven, log_read_lem, rules)

pub log_numbers-log-requires : goal.log_numbers-log-requires
log_numbers-log-requires c = search (inside_of, slot_below, read_shut, log_seven, log_read_lem, rules)

pub log_yes-requires : goal.log_yes-requires
log_yes-requires c = search (inside_of, slot_below, read_shut, log_seven, log_read_lem, rules)

pub returns : goal.returns
returns c = search (inside_of, slot_below, read_shut, log_seven, log_read_lem, rules)
