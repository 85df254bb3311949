-- Made by tools/uniform from proofs.txt, not by hand: caeb5ecd7acb6261
use Rattle.state_gate_blocks.specs.Laws.{fixed_told}
use Rattle.state_gate_blocks.proofs.fixed.Goals as goal

pub returns : goal.returns
returns c = fixed_told c.args.f _ _ _ _ c.shared_slice_known-1.given c.requires.in_bounds c.storage_state-storage.ensures c.server_state-server.ensures c.zero_words-unused.ensures
