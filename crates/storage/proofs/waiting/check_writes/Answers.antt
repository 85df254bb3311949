-- Made by tools/uniform from proofs.txt, not by hand: a82c552ef8e581e4
use Rattle.storage.specs.WaitingLaws.{write_rows}
use borrow.Author.Rules.{rules}
use Rattle.storage.proofs.waiting.check_writes.Goals as goal

pub loop-i-init : goal.loop-i-init
loop-i-init c = search (write_rows, rules)

pub returns-then-not-check_write : goal.returns-then-not-check_write
returns-then-not-check_write c = search (write_rows, rules)

pub loop-i-preserved : goal.loop-i-preserved
loop-i-preserved c = search (write_rows, rules)

pub returns : goal.returns
returns c = search (write_rows, rules)
