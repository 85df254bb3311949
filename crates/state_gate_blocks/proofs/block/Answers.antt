-- Made by tools/uniform from proofs.txt, not by hand: add72127bd1da99b
use Rattle.state_gate_blocks.specs.Laws.{block_told}
use Rattle.state_gate_blocks.proofs.block.Goals as goal

pub returns : goal.returns
returns c = block_told c.args.f _ c.requires.s_len c.shared_slice_known-1.given _ _ c.log_words-log.ensures c.waiting_words.ensures _ _ _ _ _ _ _ c.load-writes.ensures c.load-pending.ensures c.fixed-head.ensures c.check-current.ensures c.check-durable.ensures c.check-waiting.ensures c.check-keys.ensures
