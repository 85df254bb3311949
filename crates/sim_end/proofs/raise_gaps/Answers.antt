-- Made by tools/uniform from proofs.txt, not by hand: 79a9c4642d1141ae
use Rattle.sim_end.specs.StatusLaws.{gaps_more, gaps_same}
use borrow.Author.Rules.{rules}
use Rattle.sim_end.proofs.raise_gaps.Goals as goal

pub run_of-run-requires : goal.run_of-run-requires
run_of-run-requires c = search (gaps_more, gaps_same, rules)

pub set_max_log_gaps-requires : goal.set_max_log_gaps-requires
set_max_log_gaps-requires c = search (gaps_more, gaps_same, rules)

pub returns-then-run-gaps : goal.returns-then-run-gaps
returns-then-run-gaps c = search (gaps_more, gaps_same, rules)

pub returns-else-run-gaps : goal.returns-else-run-gaps
returns-else-run-gaps c = search (gaps_more, gaps_same, rules)
