-- Made by tools/uniform from proofs.txt, not by hand: f9cabb13302d4a3b
use Rattle.sim_end.specs.Laws.{gives_status}
use borrow.Author.Rules.{rules}
use Rattle.sim_end.proofs.status_given.Goals as goal

pub role_given-is-requires : goal.role_given-is-requires
role_given-is-requires c = search (gives_status, rules)

pub node_given-follows-requires : goal.node_given-follows-requires
node_given-follows-requires c = search (gives_status, rules)

pub returns : goal.returns
returns c = search (gives_status, rules)
