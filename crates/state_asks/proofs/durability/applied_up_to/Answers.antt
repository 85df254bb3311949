-- Made by tools/uniform from proofs.txt, not by hand: 0061eb9722034405
use Rattle.state_asks.specs.DurabilityLaws.{filling_start, filling_turn, filling_done}
use borrow.Author.Rules.{rules}
use Rattle.state_asks.proofs.durability.applied_up_to.Goals as goal

pub loop-k-init : goal.loop-k-init
loop-k-init c = filling_start _ _

pub applied_of-requires : goal.applied_of-requires
applied_of-requires c = search (filling_done, rules)

pub offset_bounds-up_to-k : goal.offset_bounds-up_to-k
offset_bounds-up_to-k c = search (filling_done, rules)

pub bounds-up_to-k : goal.bounds-up_to-k
bounds-up_to-k c = search (filling_done, rules)

pub loop-k-smaller : goal.loop-k-smaller
loop-k-smaller c = search (filling_done, rules)

pub loop-k-preserved : goal.loop-k-preserved
loop-k-preserved c = filling_turn c.loop-k.invariant (search rules) (search rules) c.applied_of.ensures

pub returns : goal.returns
returns c = search (filling_done, rules)
