-- Made by tools/uniform from proofs.txt, not by hand: f30ae6746b162ed6
use Rattle.std.proofs.Common.{tests}
use Rattle.laws.specs.Bools.{◌and◌}
use Rattle.faults.specs.Fault.{in_cluster}
use borrow.Author.Rules.{rules}
use Rattle.faults.proofs.in_cluster.Goals as goal

pub returns : goal.returns
unfolding in_cluster ◌and◌
returns c = search (tests, rules)
