-- Made by tools/uniform from proofs.txt, not by hand: c601649a7bd60666
use Rattle.storage.specs.WaitingLaws.{write_tests}
use borrow.Author.Rules.{rules}
use Rattle.storage.proofs.waiting.check_write.Goals as goal

pub returns-then-not-rest_ok : goal.returns-then-not-rest_ok
returns-then-not-rest_ok c = search (write_tests, rules)

pub returns : goal.returns
returns c = search (write_tests, rules)
