-- Made by tools/uniform from proofs.txt, not by hand: 8a0fb869965da1d5
use Rattle.faults_schedule.specs.ListLaws.{pushed}
use borrow.Author.Rules.{rules}
use Rattle.faults_schedule.proofs.push.Goals as goal

pub returns : goal.returns
returns c = pushed _ _ _ _ _ _ _ c.requires c.from-row.ensures (search rules) (search rules) (search rules) (search rules) (search rules) (search rules) c.open_row.ensures c.store_all.ensures
