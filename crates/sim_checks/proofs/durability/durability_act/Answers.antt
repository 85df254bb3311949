-- Made by tools/uniform from proofs.txt, not by hand: 79b0cbda0027f7ac
use Rattle.state.specs.Exits.{inside_after}
use Rattle.sim_checks.specs.DurabilityLaws.{durability_acts}
use borrow.Author.Rules.{rules}
use Rattle.sim_checks.proofs.durability.durability_act.Goals as goal

pub run_of-run-requires : goal.run_of-run-requires
run_of-run-requires c = search (inside_after, durability_acts, rules)

pub counts_of-counts-requires : goal.counts_of-counts-requires
counts_of-counts-requires c = search (inside_after, durability_acts, rules)

pub check_replies-requires : goal.check_replies-requires
check_replies-requires c = search (inside_after, durability_acts, rules)

pub check_servers-requires : goal.check_servers-requires
check_servers-requires c = search (inside_after, durability_acts, rules)

pub returns : goal.returns
returns c = search (inside_after, durability_acts, rules)
