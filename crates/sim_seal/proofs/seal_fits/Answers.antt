-- Made by tools/uniform from proofs.txt, not by hand: e477d859992a15f1
use Rattle.sim_seal.specs.SealLaws.{fits_cuts, fits_syncs}
use borrow.Author.Rules.{rules}
use Rattle.sim_seal.proofs.seal_fits.Goals as goal

pub cut_fits-requires : goal.cut_fits-requires
cut_fits-requires c = search (fits_cuts, fits_syncs, rules)

pub returns-then-cuts : goal.returns-then-cuts
returns-then-cuts c = search (fits_cuts, fits_syncs, rules)

pub sync_fits-requires : goal.sync_fits-requires
sync_fits-requires c = search (fits_cuts, fits_syncs, rules)

pub returns : goal.returns
returns c = search (fits_cuts, fits_syncs, rules)
