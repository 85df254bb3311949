-- Made by tools/uniform from proofs.txt, not by hand: 0011b41375b945dc
use Rattle.sim_reads.specs.Laws.{hard_state_told}
use borrow.Author.Rules.{rules}
use Rattle.sim_reads.proofs.hard_state_yes.Goals as goal

pub node_present-requires : goal.node_present-requires
node_present-requires c = search (hard_state_told, rules)

pub node_id-requires : goal.node_id-requires
node_id-requires c = search (hard_state_told, rules)

pub returns : goal.returns
returns c = search (hard_state_told, rules)
