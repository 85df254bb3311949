-- Made by tools/uniform from proofs.txt, not by hand: a2e5487476b93cf3
use Rattle.sim_reads.specs.Laws.{status_told_lem}
use borrow.Author.Rules.{rules}
use Rattle.sim_reads.proofs.status_some.Goals as goal

pub from-requires : goal.from-requires
from-requires c = search (status_told_lem, rules)

pub node_present-requires : goal.node_present-requires
node_present-requires c = search (status_told_lem, rules)

pub node_id-requires : goal.node_id-requires
node_id-requires c = search (status_told_lem, rules)

pub returns : goal.returns
returns c = search (status_told_lem, rules)
