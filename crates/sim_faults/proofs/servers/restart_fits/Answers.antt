-- Made by tools/uniform from proofs.txt, not by hand: 211761ce73af5a9b
use Rattle.sim_faults.specs.Laws.{fits_runs, fits_stops}
use borrow.Author.Rules.{rules}
use Rattle.sim_faults.proofs.servers.restart_fits.Goals as goal

pub overflow_sub-slot : goal.overflow_sub-slot
overflow_sub-slot c = search (fits_runs, fits_stops, rules)

pub runs-requires : goal.runs-requires
runs-requires c = search (fits_runs, fits_stops, rules)

pub returns-then-runs : goal.returns-then-runs
returns-then-runs c = search (fits_runs, fits_stops, rules)

pub restart_fits-requires : goal.restart_fits-requires
restart_fits-requires c = search (fits_runs, fits_stops, rules)

pub returns : goal.returns
returns c = search (fits_runs, fits_stops, rules)
