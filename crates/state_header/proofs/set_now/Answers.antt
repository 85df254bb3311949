-- Made by tools/uniform from proofs.txt, not by hand: 1cb0360012a6f14c
use Rattle.state_header.specs.Laws.{now_put}
use borrow.Author.Rules.{rules}
use Rattle.state_header.proofs.set_now.Goals as goal

pub returns : goal.returns
returns c = search (now_put, rules)
