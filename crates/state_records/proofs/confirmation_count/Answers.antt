-- Made by tools/uniform from proofs.txt, not by hand: 38081a70b7165bd7
use Rattle.state_records.specs.ConfirmationRows.{confirmations_counted}
use Rattle.state_records.proofs.confirmation_count.Goals as goal

pub returns : goal.returns
returns c = confirmations_counted _ _ _ c.load.ensures
