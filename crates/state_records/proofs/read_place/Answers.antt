-- Made by tools/uniform from proofs.txt, not by hand: 97231bd467f87132
use Rattle.state_records.specs.ReadRows.{place_none, place_read}
use Rattle.state_records.proofs.read_place.Goals as goal

pub returns-then-n-i : goal.returns-then-n-i
returns-then-n-i c = place_none _ _ _ _ _ c.if-n-i.true

pub returns : goal.returns
returns c = place_read _ _ _ _ _ _ _ _ c.if-n-i.false c.start_of-at.ensures.0 c.read_row.ensures
