-- Made by tools/uniform from proofs.txt, not by hand: c36b17d9e324cf54
use Rattle.state.specs.Exits.{inside_after}
use Rattle.sim_faults.specs.Laws.{fault_aimed, network_moved}
use borrow.Author.Rules.{rules}
use Rattle.sim_faults.proofs.links.network_fault.Goals as goal

pub network_of-n-requires : goal.network_of-n-requires
network_of-n-requires c = search (inside_after, fault_aimed, network_moved, rules)

pub network_after-next-requires : goal.network_after-next-requires
network_after-next-requires c = search (inside_after, fault_aimed, network_moved, rules)

pub set_network-requires : goal.set_network-requires
set_network-requires c = search (inside_after, fault_aimed, network_moved, rules)

pub close_phase-requires : goal.close_phase-requires
close_phase-requires c = search (inside_after, fault_aimed, network_moved, rules)

pub returns : goal.returns
returns c = search (inside_after, fault_aimed, network_moved, rules)
