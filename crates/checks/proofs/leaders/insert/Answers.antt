-- Made by tools/uniform from proofs.txt, not by hand: 6ca94fcc81ce884d
use Rattle.checks.specs.LeaderLaws.{leader_inserts}
use borrow.Author.Rules.{rules}
use Rattle.checks.proofs.leaders.insert.Goals as goal

pub returns : goal.returns
returns c = leader_inserts (search rules) (search rules) (search rules) c.place-i.ensures.0 c.start-at.ensures.0 c.open_row.ensures c.store_all.ensures
