-- Made by tools/uniform from proofs.txt, not by hand: 3249a29f803dd900
use Rattle.state.specs.Loads.{hard_state_loaded}
use borrow.Author.Rules.{rules}
use Rattle.state.proofs.server.load_hard_state.Goals as goal

pub overflow_add-i : goal.overflow_add-i
overflow_add-i c = search (hard_state_loaded, rules)

pub load-flag-requires : goal.load-flag-requires
load-flag-requires c = search (hard_state_loaded, rules)

pub overflow_add-i-2 : goal.overflow_add-i-2
overflow_add-i-2 c = search (hard_state_loaded, rules)

pub load-id-requires : goal.load-id-requires
load-id-requires c = search (hard_state_loaded, rules)

pub load-requires : goal.load-requires
load-requires c = search (hard_state_loaded, rules)

pub node_of-requires : goal.node_of-requires
node_of-requires c = search (hard_state_loaded, rules)

pub returns : goal.returns
returns c = search (hard_state_loaded, rules)
