-- Made by tools/uniform from proofs.txt, not by hand: e2808fa5f75897da
use Rattle.state_gate_header.specs.Laws.{first_offsets_lem}
use Rattle.state_gate_header.proofs.first_offsets.Goals as goal

pub returns : goal.returns
returns c = first_offsets_lem c.args.f _ _ _ _ _ _ _ _ _ _ c.load.ensures c.load-2.ensures c.load-3.ensures c.load-4.ensures c.load-5.ensures c.block_words-block.ensures c.queue_at-queue.ensures c.seen_at-seen.ensures c.leaders_at-leaders.ensures
