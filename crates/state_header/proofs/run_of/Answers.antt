-- Made by tools/uniform from proofs.txt, not by hand: 28b2fc15b622a93c
use Rattle.state_header.specs.Laws.{run_read}
use borrow.Author.Rules.{rules}
use Rattle.state_header.proofs.run_of.Goals as goal

pub returns : goal.returns
returns c = search (run_read, rules)
