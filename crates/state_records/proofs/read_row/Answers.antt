-- Made by tools/uniform from proofs.txt, not by hand: 6e02ff5d6f2ac27a
use Rattle.state_records.specs.ReadRows.{row_none, row_read}
use Rattle.state_records.proofs.read_row.Goals as goal

pub returns-then-p-mark : goal.returns-then-p-mark
returns-then-p-mark c = row_none _ _ _ _ c.load-mark.ensures c.if-p-mark.true

pub returns : goal.returns
returns c = row_read _ _ _ _ _ c.read_payload.ensures
