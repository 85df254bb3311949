-- Made by tools/uniform from proofs.txt, not by hand: 6442f9d33fb98698
use Rattle.sim_end.specs.StatusLaws.{check_acts}
use borrow.Author.Rules.{rules}
use Rattle.sim_end.proofs.check_status.Goals as goal

pub run_of-run-requires : goal.run_of-run-requires
run_of-run-requires c = search (check_acts, rules)

pub overflow_add-slot : goal.overflow_add-slot
overflow_add-slot c = search (check_acts, rules)

pub on_status_act-requires : goal.on_status_act-requires
on_status_act-requires c = search (check_acts, rules)

pub returns : goal.returns
returns c = search (check_acts, rules)
