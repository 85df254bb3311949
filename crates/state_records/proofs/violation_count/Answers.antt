-- Made by tools/uniform from proofs.txt, not by hand: e5fd20ddd7c75489
use Rattle.state_records.specs.ReadRows.{violations_counted}
use Rattle.state_records.proofs.violation_count.Goals as goal

pub returns : goal.returns
returns c = violations_counted _ _ _ c.load.ensures
