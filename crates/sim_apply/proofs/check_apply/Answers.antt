-- Made by tools/uniform from proofs.txt, not by hand: 5f86661a968eed40
use Rattle.sim_apply.specs.ApplyLaws.{check_acts}
use borrow.Author.Rules.{rules}
use Rattle.sim_apply.proofs.check_apply.Goals as goal

pub run_of-run-requires : goal.run_of-run-requires
run_of-run-requires c = search (check_acts, rules)

pub next_apply_of-expected-requires : goal.next_apply_of-expected-requires
next_apply_of-expected-requires c = search (check_acts, rules)

pub overflow_add-slot : goal.overflow_add-slot
overflow_add-slot c = search (check_acts, rules)

pub on_apply_act-requires : goal.on_apply_act-requires
on_apply_act-requires c = search (check_acts, rules)

pub returns : goal.returns
returns c = search (check_acts, rules)
