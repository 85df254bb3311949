-- Made by tools/uniform from proofs.txt, not by hand: 36efc83b067da4bb
use Rattle.state_records.specs.DiscardedLaws.{adding_start, adding_turn, adding_past, adding_done}
use Rattle.state_records.proofs.discarded_of.Goals as goal

pub loop-k-init : goal.loop-k-init
loop-k-init c = adding_start _ _

pub returns-then-value-more : goal.returns-then-value-more
returns-then-value-more c = adding_past _ _ _ _ c.loop-k.invariant _ c.loop-k-test.true c.discarded_by-more.ensures c.if-value-more.true

pub loop-k-preserved : goal.loop-k-preserved
loop-k-preserved c = adding_turn _ _ _ _ c.loop-k.invariant _ c.loop-k-test.true c.discarded_by-more.ensures c.if-value-more.false

pub returns : goal.returns
returns c = adding_done _ _ _ _ c.loop-k.invariant c.loop-k-test.false
