-- Made by tools/uniform from proofs.txt, not by hand: 1b7a9b5ee4044a6c
use Rattle.sim_schedule.specs.ScheduleLaws.{schedule_planned}
use borrow.Author.Rules.{rules}
use Rattle.sim_schedule.proofs.schedule_plan.Goals as goal

pub returns : goal.returns
returns c = search (schedule_planned, rules)
