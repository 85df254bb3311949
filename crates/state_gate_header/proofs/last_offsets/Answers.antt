-- Made by tools/uniform from proofs.txt, not by hand: c30414e89cceaf85
use Rattle.state_gate_header.specs.Laws.{last_offsets_lem}
use Rattle.state_gate_header.proofs.last_offsets.Goals as goal

pub returns : goal.returns
returns c = last_offsets_lem c.args.f _ _ _ _ _ _ _ _ _ _ _ _ _ c.load.ensures c.load-2.ensures c.load-3.ensures c.load-4.ensures c.load-5.ensures c.load-6.ensures c.replies_at-replies.ensures c.confirmations_at-confirmations.ensures c.applied_at-applied.ensures c.clients_at-clients.ensures c.whole_words-whole.ensures c.area_length-bytes.ensures.0
