-- Made by tools/uniform from proofs.txt, not by hand: 1a060cb55acb985f
use Rattle.queue.specs.TableLaws.{row_tests}
use borrow.Author.Rules.{rules}
use Rattle.queue.proofs.table.check_row.Goals as goal

pub returns-in-Err : goal.returns-in-Err
returns-in-Err c = search (row_tests, rules)

pub returns-in-Ok : goal.returns-in-Ok
returns-in-Ok c = search (row_tests, rules)
