-- Made by tools/uniform from proofs.txt, not by hand: 6832ac8885ba84a8
use Prim.Native.Nat.{◌-◌}
use Rattle.state_queue.specs.Sends.{starting_start, starting_turn, starting_done}
use borrow.Author.Rules.{rules}
use Rattle.state_queue.proofs.push_spread_starts.Goals as goal

pub loop-slot-init : goal.loop-slot-init
loop-slot-init c = starting_start _ _ _ _ c.requires.inside

pub loop-slot-preserved : goal.loop-slot-preserved
loop-slot-preserved c = starting_turn _ _ _ _ _ _ _ c.loop-slot.invariant _ _ c.loop-slot-test.true (search rules) c.drawn_under-d.ensures.0 c.push_plain.ensures

pub returns : goal.returns
returns c = starting_done _ _ _ _ _ _ _ c.loop-slot.invariant c.loop-slot-test.false
