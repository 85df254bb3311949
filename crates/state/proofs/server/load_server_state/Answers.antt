-- Made by tools/uniform from proofs.txt, not by hand: 500d8bce2f455552
use Rattle.state.specs.Loads.{server_state_loaded}
use borrow.Author.Rules.{rules}
use Rattle.state.proofs.server.load_server_state.Goals as goal

pub load-flag-requires : goal.load-flag-requires
load-flag-requires c = search (server_state_loaded, rules)

pub load-term-requires : goal.load-term-requires
load-term-requires c = search (server_state_loaded, rules)

pub load_status-requires : goal.load_status-requires
load_status-requires c = search (server_state_loaded, rules)

pub load-requires : goal.load-requires
load-requires c = search (server_state_loaded, rules)

pub load-requires-2 : goal.load-requires-2
load-requires-2 c = search (server_state_loaded, rules)

pub load-requires-3 : goal.load-requires-3
load-requires-3 c = search (server_state_loaded, rules)

pub load-requires-4 : goal.load-requires-4
load-requires-4 c = search (server_state_loaded, rules)

pub load-requires-5 : goal.load-requires-5
load-requires-5 c = search (server_state_loaded, rules)

pub load-requires-6 : goal.load-requires-6
load-requires-6 c = search (server_state_loaded, rules)

pub term_of-requires : goal.term_of-requires
term_of-requires c = search (server_state_loaded, rules)

pub returns : goal.returns
returns c = search (server_state_loaded, rules)
