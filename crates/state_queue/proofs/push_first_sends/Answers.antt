-- Made by tools/uniform from proofs.txt, not by hand: a3ebd30d159a8cb0
use Prim.Native.Nat.{◌-◌}
use Rattle.state_queue.specs.Sends.{sending_start, sending_turn, sending_done}
use borrow.Author.Rules.{rules}
use Rattle.state_queue.proofs.push_first_sends.Goals as goal

pub loop-c-init : goal.loop-c-init
loop-c-init c = sending_start _ _ _ c.requires c.run_of-run.ensures

pub loop-c-preserved : goal.loop-c-preserved
loop-c-preserved c = sending_turn _ _ _ _ _ c.loop-c.invariant _ c.loop-c-test.true (search rules) c.push_plain.ensures

pub returns : goal.returns
returns c = sending_done _ _ _ _ _ c.loop-c.invariant c.loop-c-test.false
