-- Made by tools/uniform from proofs.txt, not by hand: ae7a11e37e5b8861
use Rattle.sim_direct.specs.AskedLaws.{propose_stopped, propose_full, propose_goes}
use borrow.Author.Rules.{rules}
use Rattle.sim_direct.proofs.asked.propose_plan.Goals as goal

pub returns-then-code-gt0 : goal.returns-then-code-gt0
returns-then-code-gt0 c = search (propose_stopped, propose_full, propose_goes, rules)

pub returns-then-seq-ge18446744073709551615 : goal.returns-then-seq-ge18446744073709551615
returns-then-seq-ge18446744073709551615 c = search (propose_stopped, propose_full, propose_goes, rules)

pub returns : goal.returns
returns c = search (propose_stopped, propose_full, propose_goes, rules)
