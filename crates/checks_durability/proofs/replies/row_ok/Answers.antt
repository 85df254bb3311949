-- Made by tools/uniform from proofs.txt, not by hand: 2c84919f0f202bae
use Rattle.checks_durability.specs.ReplyLaws.{reply_rows}
use borrow.Author.Rules.{rules}
use Rattle.checks_durability.proofs.replies.row_ok.Goals as goal

pub returns-then-load-l : goal.returns-then-load-l
returns-then-load-l c = search (reply_rows, rules)

pub returns-else-load-l : goal.returns-else-load-l
returns-else-load-l c = search (reply_rows, rules)
