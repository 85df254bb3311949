-- Made by tools/uniform from proofs.txt, not by hand: 1fb808f110de7658
use Rattle.network.proofs.Typed.{typed_in_range}
use borrow.Author.Rules.{rules}
use Rattle.network.proofs.Network.in_range.Goals as goal

pub links_within-requires : goal.links_within-requires
links_within-requires c = search (typed_in_range, rules)

pub returns : goal.returns
returns c = search (typed_in_range, rules)
