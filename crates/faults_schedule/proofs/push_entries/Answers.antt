-- Made by tools/uniform from proofs.txt, not by hand: 287acb0a2e1ac065
use Rattle.faults_schedule.specs.ListLaws.{entries}
use borrow.Author.Rules.{rules}
use Rattle.faults_schedule.proofs.push_entries.Goals as goal

pub returns-in-One : goal.returns-in-One
returns-in-One c = search (entries, rules)

pub returns-in-Two : goal.returns-in-Two
returns-in-Two c = search (entries, rules)
