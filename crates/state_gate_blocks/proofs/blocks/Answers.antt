-- Made by tools/uniform from proofs.txt, not by hand: 0c8b001237c61cd9
use Prim.Native.Nat.{◌-◌}
use Rattle.state_gate_blocks.specs.Laws.{blocks_start, blocks_done, block_fine, block_fails}
use Rattle.state_gate_blocks.proofs.blocks.Goals as goal

pub loop-i-init : goal.loop-i-init
loop-i-init c = blocks_start _ _

pub returns-then-not-block : goal.returns-then-not-block
returns-then-not-block c = block_fails c.args.f _ _ _ c.block_words-w.ensures c.loop-i.invariant _ _ c.requires.s_len c.loop-i-test.true c.shared_slice_known-1.given c.block_at-at.ensures c.block.ensures c.if-not-block.true-raw

pub loop-i-preserved : goal.loop-i-preserved
loop-i-preserved c = block_fine c.args.f _ _ _ c.block_words-w.ensures c.loop-i.invariant _ _ c.requires.s_len c.loop-i-test.true c.shared_slice_known-1.given c.block_at-at.ensures c.block.ensures c.if-not-block.false-raw

pub returns : goal.returns
returns c = blocks_done _ _ _ _ c.block_words-w.ensures c.loop-i.invariant c.loop-i-test.false
