-- Made by tools/uniform from proofs.txt, not by hand: 0cb8a5ae89569fe4
use Rattle.state_asks.specs.DurabilityLaws.{durability_given}
use Rattle.state_asks.proofs.durability.durability_given.Goals as goal

pub returns : goal.returns
returns c = durability_given c.rows_of-n.ensures c.rows_of-m.ensures c.at_most-bytes.ensures c.replies_at-at.ensures c.applied_at-from.ensures c.applied_words.ensures c.check_durability.ensures
