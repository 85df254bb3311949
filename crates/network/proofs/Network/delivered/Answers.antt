use Rattle.std.proofs.Common.{rules}
use Rattle.laws.proofs.BoolLaws.{and_both}
use Rattle.network.proofs.Network.delivered.Goals as goal

pub returns-then-twice-clause-bounds : goal.returns-then-twice-clause-bounds
returns-then-twice-clause-bounds c = search (and_both, rules)
