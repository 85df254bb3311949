-- Made by tools/uniform from proofs.txt, not by hand: 6e02f258eaa637a5
use Rattle.checks.specs.Entries.{seen_in}
use Rattle.layout.specs.AllRows.{lent_ok}
use Rattle.checks.proofs.entries.row_ok.Goals as goal

pub returns : goal.returns
returns c = lent_ok (seen_in c.args.l c.args.p).row _ _ _ _ _ c.requires.1 c.type_inv.s c.start_of-at.ensures.0 c.requires.2 c.check_entry.ensures
