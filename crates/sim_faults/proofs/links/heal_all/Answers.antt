-- Made by tools/uniform from proofs.txt, not by hand: 63606e6c547d2e23
use Rattle.state.specs.Exits.{inside_after}
use Rattle.sim_faults.specs.Laws.{all_healed}
use borrow.Author.Rules.{rules}
use Rattle.sim_faults.proofs.links.heal_all.Goals as goal

pub network_of-n-requires : goal.network_of-n-requires
network_of-n-requires c = search (inside_after, all_healed, rules)

pub heal_all-requires : goal.heal_all-requires
heal_all-requires c = search (inside_after, all_healed, rules)

pub set_network-requires : goal.set_network-requires
set_network-requires c = search (inside_after, all_healed, rules)

pub heal_from-requires : goal.heal_from-requires
heal_from-requires c = search (inside_after, all_healed, rules)

pub returns : goal.returns
returns c = search (inside_after, all_healed, rules)
