-- Made by tools/uniform from proofs.txt, not by hand: b83f8d8df4740eb6
use Rattle.state_header.specs.Laws.{network_put}
use borrow.Author.Rules.{rules}
use Rattle.state_header.proofs.set_network.Goals as goal

pub returns : goal.returns
returns c = search (network_put, rules)
