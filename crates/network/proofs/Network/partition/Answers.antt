-- Made by tools/uniform from proofs.txt, not by hand: 6cb463a89fb37027
use mathlib.Core.Path.{refl}
use Rattle.network.specs.Laws.{links_start, links_next, partition_is}
use borrow.Author.Rules.{rules}
use Rattle.network.proofs.Network.partition.Goals as goal

pub loop-k-init : goal.loop-k-init
loop-k-init c = search (links_start, links_next, partition_is, refl, rules)

pub bounds-blocked-items-k : goal.bounds-blocked-items-k
bounds-blocked-items-k c = search (links_start, links_next, partition_is, refl, rules)

pub overflow_add-link : goal.overflow_add-link
overflow_add-link c = search (links_start, links_next, partition_is, refl, rules)

pub overflow_add-link-in-loop-k : goal.overflow_add-link-in-loop-k
overflow_add-link-in-loop-k c = search (links_start, links_next, partition_is, refl, rules)

pub invariant_of-link : goal.invariant_of-link
invariant_of-link c = search (links_start, links_next, partition_is, refl, rules)

pub separated-requires : goal.separated-requires
separated-requires c = search (links_start, links_next, partition_is, refl, rules)

pub loop-k-smaller : goal.loop-k-smaller
loop-k-smaller c = search (links_start, links_next, partition_is, refl, rules)

pub loop-k-preserved : goal.loop-k-preserved
loop-k-preserved c = search (links_start, links_next, partition_is, refl, rules)

pub returns : goal.returns
returns c = search (links_start, links_next, partition_is, refl, rules)
