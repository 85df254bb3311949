-- Made by tools/uniform from proofs.txt, not by hand: ebcfef6dc19c1ea4
use Rattle.sim_schedule.specs.GivenLaws.{asked_fault}
use borrow.Author.Rules.{rules}
use Rattle.sim_schedule.proofs.given.fault_asked.Goals as goal

pub returns : goal.returns
returns c = search (asked_fault, rules)
