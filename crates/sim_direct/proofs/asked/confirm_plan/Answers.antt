-- Made by tools/uniform from proofs.txt, not by hand: e425bab61795138d
use Rattle.sim_direct.specs.AskedLaws.{confirm_planned}
use borrow.Author.Rules.{rules}
use Rattle.sim_direct.proofs.asked.confirm_plan.Goals as goal

pub returns : goal.returns
returns c = search (confirm_planned, rules)
