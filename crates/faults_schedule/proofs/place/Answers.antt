-- Made by tools/uniform from proofs.txt, not by hand: 0d9d1f5db299521a
use Rattle.faults_schedule.specs.ListLaws.{place_is}
use borrow.Author.Rules.{rules}
use Rattle.faults_schedule.proofs.place.Goals as goal

pub returns : goal.returns
returns c = search (place_is, rules)
