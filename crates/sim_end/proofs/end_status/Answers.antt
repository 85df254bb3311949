-- Made by tools/uniform from proofs.txt, not by hand: a8229e897452e042
use Rattle.state.specs.Exits.{inside_after}
use Rattle.sim_end.specs.StatusLaws.{status_acts_lem}
use borrow.Author.Rules.{rules}
use Rattle.sim_end.proofs.end_status.Goals as goal

pub log_numbers-numbers-requires : goal.log_numbers-numbers-requires
log_numbers-numbers-requires c = search (inside_after, status_acts_lem, rules)

pub check_status-requires : goal.check_status-requires
check_status-requires c = search (inside_after, status_acts_lem, rules)

pub set_status-requires : goal.set_status-requires
set_status-requires c = search (inside_after, status_acts_lem, rules)

pub raise_gaps-requires : goal.raise_gaps-requires
raise_gaps-requires c = search (inside_after, status_acts_lem, rules)

pub returns : goal.returns
returns c = search (inside_after, status_acts_lem, rules)
