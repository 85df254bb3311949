-- Made by tools/uniform from proofs.txt, not by hand: f93b311341fbcb83
use Rattle.state_records.specs.ReadRows.{applied_counted}
use Rattle.state_records.proofs.applied_count.Goals as goal

pub returns : goal.returns
returns c = applied_counted _ _ _ c.load.ensures
