-- Made by tools/uniform from proofs.txt, not by hand: 0a2471c35bce0bdb
use Rattle.sim_events.specs.Laws.{fresh_told}
use borrow.Author.Rules.{rules}
use Rattle.sim_events.proofs.fresh.Goals as goal

pub runs-running-requires : goal.runs-running-requires
runs-running-requires c = search (fresh_told, rules)

pub returns : goal.returns
returns c = search (fresh_told, rules)
