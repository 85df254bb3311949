-- Made by tools/uniform from proofs.txt, not by hand: cfbb43adfaf15029
use Rattle.sim_start.specs.ContentLaws.{header_stored}
use Rattle.sim_start.proofs.content.store_header.Goals as goal

pub returns : goal.returns
returns c = header_stored _ _ _ c.store_counts.ensures c.store_first_offsets.ensures c.store_last_offsets.ensures c.store_settings.ensures c.store_first.ensures
