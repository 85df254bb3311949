-- Made by tools/uniform from proofs.txt, not by hand: 543d88459c49f69a
use Rattle.state_header.specs.Laws.{phase_put}
use borrow.Author.Rules.{rules}
use Rattle.state_header.proofs.set_open.Goals as goal

pub returns : goal.returns
returns c = search (phase_put, rules)
