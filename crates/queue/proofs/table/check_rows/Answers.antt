-- Made by tools/uniform from proofs.txt, not by hand: 14f2dd49dfb8f7f1
use Rattle.queue.specs.TableLaws.{event_rows}
use borrow.Author.Rules.{rules}
use Rattle.queue.proofs.table.check_rows.Goals as goal

pub returns-then-not-check_row : goal.returns-then-not-check_row
returns-then-not-check_row c = search (event_rows, rules)

pub loop-i-preserved : goal.loop-i-preserved
loop-i-preserved c = search (event_rows, rules)

pub returns : goal.returns
returns c = search (event_rows, rules)
