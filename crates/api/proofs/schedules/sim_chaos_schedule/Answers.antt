-- Made by tools/uniform from proofs.txt, not by hand: 066609a1a314ccdc
use Rattle.api.specs.Laws.{schedule_drawn}
use borrow.Author.Rules.{rules}
use Rattle.api.proofs.schedules.sim_chaos_schedule.Goals as goal

pub chaos_given-config-requires : goal.chaos_given-config-requires
chaos_given-config-requires c = search (schedule_drawn, rules)

pub new-rng-requires : goal.new-rng-requires
new-rng-requires c = search (schedule_drawn, rules)

pub chaos_schedule-made-requires : goal.chaos_schedule-made-requires
chaos_schedule-made-requires c = search (schedule_drawn, rules)

pub schedule_told-requires : goal.schedule_told-requires
schedule_told-requires c = search (schedule_drawn, rules)

pub returns : goal.returns
returns c = search (schedule_drawn, rules)
