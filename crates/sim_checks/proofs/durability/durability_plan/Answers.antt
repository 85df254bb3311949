-- Made by tools/uniform from proofs.txt, not by hand: 67fe093916dfb567
use Rattle.sim_checks.specs.DurabilityLaws.{durability_open, durability_planned}
use borrow.Author.Rules.{rules}
use Rattle.sim_checks.proofs.durability.durability_plan.Goals as goal

pub is_closed-closed-requires : goal.is_closed-closed-requires
is_closed-closed-requires c = search (durability_open, durability_planned, rules)

pub returns-then-not-closed : goal.returns-then-not-closed
returns-then-not-closed c = search (durability_open, durability_planned, rules)

pub durability_asked-requires : goal.durability_asked-requires
durability_asked-requires c = search (durability_open, durability_planned, rules)

pub returns : goal.returns
returns c = search (durability_open, durability_planned, rules)
