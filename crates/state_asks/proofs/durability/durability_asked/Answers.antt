-- Made by tools/uniform from proofs.txt, not by hand: edf64968c02ef2b7
use Rattle.state_asks.specs.DurabilityLaws.{durability_asked}
use Rattle.state_asks.proofs.durability.durability_asked.Goals as goal

pub returns : goal.returns
returns c = durability_asked c.applied_up_to-up_to.ensures c.command_bytes_of-size.ensures c.counts_of-counts.ensures c.durability_given.ensures
