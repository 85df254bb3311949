-- Made by tools/uniform from proofs.txt, not by hand: 31849aec7b650aea
use Rattle.state.specs.Loads.{settings_loaded}
use borrow.Author.Rules.{rules}
use Rattle.state.proofs.header.load_settings.Goals as goal

pub load_consensus-requires : goal.load_consensus-requires
load_consensus-requires c = search (settings_loaded, rules)

pub load-requires : goal.load-requires
load-requires c = search (settings_loaded, rules)

pub load-requires-2 : goal.load-requires-2
load-requires-2 c = search (settings_loaded, rules)

pub load-requires-3 : goal.load-requires-3
load-requires-3 c = search (settings_loaded, rules)

pub load-requires-4 : goal.load-requires-4
load-requires-4 c = search (settings_loaded, rules)

pub load-requires-5 : goal.load-requires-5
load-requires-5 c = search (settings_loaded, rules)

pub load-requires-6 : goal.load-requires-6
load-requires-6 c = search (settings_loaded, rules)

pub load-requires-7 : goal.load-requires-7
load-requires-7 c = search (settings_loaded, rules)

pub returns : goal.returns
returns c = search (settings_loaded, rules)
