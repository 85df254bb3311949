-- Made by tools/uniform from proofs.txt, not by hand: 2d1f9f2acb0feb79
use Rattle.state_header.specs.Laws.{network_read}
use borrow.Author.Rules.{rules}
use Rattle.state_header.proofs.network_of.Goals as goal

pub returns : goal.returns
returns c = search (network_read, rules)
