-- Made by tools/uniform from proofs.txt, not by hand: 1118983869892d0b
use Rattle.state_records.specs.ReadRows.{violation_past, violation_none, violation_read}
use Rattle.state_records.proofs.violation_of.Goals as goal

pub returns-then-n-gt32 : goal.returns-then-n-gt32
returns-then-n-gt32 c = violation_past _ _ _ c.violation_count-n.ensures _ c.if-n-gt32.true

pub returns-then-n-i : goal.returns-then-n-i
returns-then-n-i c = violation_none _ _ _ c.violation_count-n.ensures _ c.if-n-i.true

pub returns : goal.returns
returns c = violation_read _ _ _ c.violation_count-n.ensures _ _ c.if-n-i.false c.read.ensures
