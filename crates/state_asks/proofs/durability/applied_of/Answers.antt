-- Made by tools/uniform from proofs.txt, not by hand: 20420c6f9563498a
use Rattle.state_asks.specs.DurabilityLaws.{applied_none, applied_some}
use Rattle.state_asks.proofs.durability.applied_of.Goals as goal

pub returns-then-n-lt1 : goal.returns-then-n-lt1
returns-then-n-lt1 c = applied_none _ c.next_apply_of-n.ensures c.if-n-lt1.true

pub returns-else-n-lt1 : goal.returns-else-n-lt1
returns-else-n-lt1 c = applied_some _ c.next_apply_of-n.ensures c.if-n-lt1.false
