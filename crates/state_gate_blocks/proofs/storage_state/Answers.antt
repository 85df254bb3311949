-- Made by tools/uniform from proofs.txt, not by hand: 0c963dfe34140484
use Rattle.state_gate_blocks.specs.Laws.{storage_told}
use Rattle.state_gate_blocks.proofs.storage_state.Goals as goal

pub returns : goal.returns
returns c = storage_told _ _ _ _ _ _ _ c.load.ensures c.load-2.ensures c.flagged-vote.ensures c.load-3.ensures c.load-4.ensures c.flagged-durable_vote.ensures
