-- Made by tools/uniform from proofs.txt, not by hand: b09cc643dc0efc86
use Rattle.sim_direct.specs.AskedLaws.{confirmation_opens}
use borrow.Author.Rules.{rules}
use Rattle.sim_direct.proofs.asked.open_confirmation.Goals as goal

pub returns : goal.returns
returns c = search (confirmation_opens, rules)
