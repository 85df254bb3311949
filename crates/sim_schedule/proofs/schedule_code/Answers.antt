-- Made by tools/uniform from proofs.txt, not by hand: cdc85b193930c377
use Rattle.sim_schedule.specs.ScheduleLaws.{codes}
use borrow.Author.Rules.{rules}
use Rattle.sim_schedule.proofs.schedule_code.Goals as goal

pub returns-then-not-closed : goal.returns-then-not-closed
returns-then-not-closed c = search (codes, rules)

pub returns-then-not-known : goal.returns-then-not-known
returns-then-not-known c = search (codes, rules)

pub returns-then-not-args : goal.returns-then-not-args
returns-then-not-args c = search (codes, rules)

pub returns-then-not-room : goal.returns-then-not-room
returns-then-not-room c = search (codes, rules)

pub returns : goal.returns
returns c = search (codes, rules)
