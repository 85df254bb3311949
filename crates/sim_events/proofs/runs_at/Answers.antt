-- Made by tools/uniform from proofs.txt, not by hand: 79a128179fc5aa83
use Rattle.sim_events.specs.Laws.{runs_read}
use borrow.Author.Rules.{rules}
use Rattle.sim_events.proofs.runs_at.Goals as goal

pub status_of-status-requires : goal.status_of-status-requires
status_of-status-requires c = search (runs_read, rules)

pub runs-requires : goal.runs-requires
runs-requires c = search (runs_read, rules)

pub returns : goal.returns
returns c = search (runs_read, rules)
