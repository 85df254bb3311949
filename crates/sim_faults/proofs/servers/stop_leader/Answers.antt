-- Made by tools/uniform from proofs.txt, not by hand: daa3c4ea371edd6c
use Rattle.state.specs.Exits.{inside_after}
use Rattle.sim_faults.specs.Laws.{tested_known, stop_low, stop_high, stop_done}
use borrow.Author.Rules.{rules}
use Rattle.sim_faults.proofs.servers.stop_leader.Goals as goal

pub no_input-requires : goal.no_input-requires
no_input-requires c = search (inside_after, tested_known, stop_low, stop_high, stop_done, rules)

pub returns-then-id-lt1 : goal.returns-then-id-lt1
returns-then-id-lt1 c = search (inside_after, tested_known, stop_low, stop_high, stop_done, rules)

pub no_input-requires-then-f-id : goal.no_input-requires-then-f-id
no_input-requires-then-f-id c = search (inside_after, tested_known, stop_low, stop_high, stop_done, rules)

pub returns-then-f-id : goal.returns-then-f-id
returns-then-f-id c = search (inside_after, tested_known, stop_low, stop_high, stop_done, rules)

pub run_of-run-requires : goal.run_of-run-requires
run_of-run-requires c = search (inside_after, tested_known, stop_low, stop_high, stop_done, rules)

pub sum64-time-requires : goal.sum64-time-requires
sum64-time-requires c = search (inside_after, tested_known, stop_low, stop_high, stop_done, rules)

pub stop_scheduled-requires : goal.stop_scheduled-requires
stop_scheduled-requires c = search (inside_after, tested_known, stop_low, stop_high, stop_done, rules)

pub close_phase-requires : goal.close_phase-requires
close_phase-requires c = search (inside_after, tested_known, stop_low, stop_high, stop_done, rules)

pub returns : goal.returns
returns c = search (inside_after, tested_known, stop_low, stop_high, stop_done, rules)
